-- How a card and the lent areas hold a reading, what each phase has settled of them, and what a step leaves.
use Rattle.std.specs.Prelude.{ℕ, ◌+◌, ◌*◌, ◌/◌, ◌≤◌, ◌<◌, ◌≡◌, true, List, length, get_or, take, replicate, Ok}
use Rattle.std.specs.Borrow.{MutBor}
use denote.Triple.Both.{Both}
use Rattle.rules.specs.Ranges.{table, over}
use Rattle.rules.specs.Listing.{size, listing_verdict}
use Rattle.rules.specs.Order.{sound_verdict}
use Rattle.rules.specs.Index.{Index, lens_of, built_count, built_words, built_directory}
use Rattle.rules.specs.Questions.{kind16}
use Rattle.layout.specs.Starts.{row_starts}
use Rattle.stages.specs.Stages.{stage_table}
use Rattle.known.specs.Asked.{parts, Sure}
use Rattle.reading.specs.declared.Areas as declared_areas
use Rattle.reading.specs.declared.Card.{Card}
use Rattle.reading.specs.declared.Step.{Step}
use Rattle.reading.specs.declared.Phase.{Phase}
use Rattle.reading.specs.declared.Phase.TheVariants.{Head, Tracks, Needs, Asking, Stopped}
use Rattle.reading.specs.Card.{Reading, Next, listing_of, reads}

-- ---- what is held

-- what the lent areas hold
pub record Areas : Type 0 where
  pub tracks : List ℕ
  pub needs : List ℕ
  pub words : List ℕ
  pub directory : List ℕ
  pub work : List ℕ
  pub list : List ℕ

abbrev pub areas : List ℕ → List ℕ → List ℕ → List ℕ → List ℕ → List ℕ → Areas
areas tracks needs words directory work list =
    record { tracks = tracks; needs = needs; words = words; directory = directory; work = work; list = list }

-- what the areas hold as they are lent
abbrev pub held : declared_areas.Areas → Areas
held a = areas a.tracks.now a.needs.now a.words.now a.directory.now a.work.now a.list.now

-- areas of the same lengths
pub record AsLong (a a' : Areas) : Type 0 where
  pub tracks_long : length a'.tracks ≡ length a.tracks
  pub needs_long : length a'.needs ≡ length a.needs
  pub words_long : length a'.words ≡ length a.words
  pub directory_long : length a'.directory ≡ length a.directory
  pub work_long : length a'.work ≡ length a.work
  pub list_long : length a'.list ≡ length a.list

-- each area is still the one that was lent
pub record SameAreas (a a' : declared_areas.Areas) : Type 0 where
  pub tracks_same : a'.tracks.ghost_name ≡ a.tracks.ghost_name
  pub needs_same : a'.needs.ghost_name ≡ a.needs.ghost_name
  pub words_same : a'.words.ghost_name ≡ a.words.ghost_name
  pub directory_same : a'.directory.ghost_name ≡ a.directory.ghost_name
  pub work_same : a'.work.ghost_name ≡ a.work.ghost_name
  pub list_same : a'.list.ghost_name ≡ a.list.ghost_name

-- the areas one by one, as they are lent; and by what a call is lent and leaves: as it finds them, and as it leaves them
abbrev pub Slice : Type 0
Slice = MutBor (List ℕ)

abbrev pub lent : Slice → Slice → Slice → Slice → Slice → Slice → Areas
lent tracks needs words directory work list = areas tracks.now needs.now words.now directory.now work.now list.now

abbrev pub Passed : Type 0
Passed = Both Slice Slice

abbrev pub entered : Passed → Passed → Passed → Passed → Passed → Passed → Areas
entered tracks needs words directory work list =
    lent tracks.entry needs.entry words.entry directory.entry work.entry list.entry

abbrev pub left : Passed → Passed → Passed → Passed → Passed → Passed → Areas
left tracks needs words directory work list =
    lent tracks.exit needs.exit words.exit directory.exit work.exit list.exit

-- the reading that a card and the areas hold
abbrev pub reading_of : Card → Areas → Reading
reading_of card a =
    record {
      phase = card.phase;
      lines = card.lines;
      n = card.n;
      k = card.k;
      tracks = take card.units a.tracks;
      needs = take (2 * card.pairs) a.needs;
    }

abbrev pub fresh_card : Card
fresh_card =
    record {
      phase = Head;
      lines = 0;
      n = 0;
      k = 0;
      units = 0;
      pairs = 0;
      count = 0;
      lens = replicate 32 0;
      row = replicate 66 0;
    }

-- the card with another phase
abbrev pub card_in : Phase → Card → Card
card_in phase card =
    record {
      phase = phase;
      lines = card.lines;
      n = card.n;
      k = card.k;
      units = card.units;
      pairs = card.pairs;
      count = card.count;
      lens = card.lens;
      row = card.row;
    }

-- the card once its index is built, by the lengths of the tracks
abbrev pub loaded_card : Card → List ℕ → Card
loaded_card card lens =
    record {
      phase = Asking;
      lines = card.lines;
      n = card.n;
      k = card.k;
      units = card.units;
      pairs = card.pairs;
      count = (get_or (row_starts (lens_of lens) card.k) card.k 0 + 63) / 64;
      lens = lens;
      row = row_starts (lens_of lens) card.k;
    }

-- ---- what a phase has settled

-- n and k are within the limits
pub record Limited (n k : ℕ) : Type 0 where
  pub n_in : (1 ≤ n) × (n ≤ 1024)
  pub k_in : (1 ≤ k) × (k ≤ 32)

-- the listing is accepted, the index lies in the areas, and the work area begins with the stages
pub record Loaded (card : Card) (a : Areas) : Type 0 where
  pub accepted : listing_verdict (listing_of (reading_of card a)) ≡ Ok tt
  pub sound : sound_verdict (listing_of (reading_of card a)) ≡ Ok tt
  pub count_is : card.count ≡ built_count (listing_of (reading_of card a))
  pub words_are : take card.count a.words ≡ built_words (listing_of (reading_of card a))
  pub directory_is : take card.count a.directory ≡ built_directory (listing_of (reading_of card a))
  pub lens_are : card.lens ≡ table (size (take card.units a.tracks)) 32
  pub starts : card.row ≡ row_starts (lens_of card.lens) card.k
  pub stages_are : take card.units a.work ≡ stage_table (take (2 * card.pairs) a.needs) card.units

abbrev pub Settled : Phase → Card → Areas → Type 0
Settled Head card a = (card.units ≡ 0) × (card.pairs ≡ 0)
Settled Tracks card a = Limited card.n card.k × (card.units < card.n) × (card.pairs ≡ 0)
Settled Needs card a = Limited card.n card.k × (card.units ≡ card.n)
Settled Asking card a = Limited card.n card.k × (card.units ≡ card.n) × Loaded card a
Settled Stopped card a = Unit {0}

-- areas with room for any course
pub record Room (a : Areas) : Type 0 where
  pub track_room : 1024 ≤ length a.tracks
  pub need_room : 16384 ≤ length a.needs
  pub word_room : 992 ≤ length a.words
  pub directory_room : 992 ≤ length a.directory
  pub work_room : 32768 ≤ length a.work
  pub list_room : 1024 ≤ length a.list

-- and counts within them
pub record Roomy (card : Card) (a : Areas) : Type 0 where
  pub lines_few : card.lines ≤ 65536
  pub pairs_few : card.pairs ≤ 8192
  pub units_few : card.units ≤ 1024
  pub areas_room : Room a

-- a card over its areas; one that reads on has read at most 65,535 lines
pub record Fit (card : Card) (a : Areas) : Type 0 where
  pub room : Roomy card a
  pub lines_left : reads card.phase ≡ true → card.lines ≤ 65535
  pub settled : Settled card.phase card a

-- ---- what a step leaves

-- a reading and the bytes printed
abbrev pub next : Reading → List ℕ → Next
next reading printed = record { reading = reading; printed = printed }

-- the reading is the one wanted, the bytes wanted stand at the start of the line area, whose rest is kept, and the card is fit
pub record Took (wanted : Next) (before : List ℕ) (step : Step) (a : Areas) (out : List ℕ) : Type 0 where
  pub reading_is : reading_of step.card a ≡ wanted.reading
  pub wrote_is : step.wrote ≡ length wanted.printed
  pub out_is : out ≡ over before wanted.printed
  pub few : step.wrote ≤ 5125
  pub fit : Fit step.card a

-- ---- the questions

-- the index as the questions are lent it
abbrev pub asked : Card → List ℕ → List ℕ → List ℕ → Index
asked card tracks words directory = parts card.lens card.k tracks words directory

pub record Ready (card : Card) (tracks words directory : List ℕ) : Type 0 where
  pub sure : Sure (asked card tracks words directory) card.row
  pub units_are : length tracks ≡ card.n
  pub units_few : length tracks ≤ 1024

-- the stage of each unit
abbrev pub stages_of : Index → List ℕ
stages_of x = table (λ i. kind16 x (i + 1)) x.head.n
