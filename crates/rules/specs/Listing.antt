-- A listing as lent: n, k, a track list in unit order and a need list u, v, u, v and so on; and its refusals 1 to 5.
use Rattle.std.specs.Prelude.{ℕ, ◌+◌, ◌-◌, ◌*◌, ◌/◌, ◌%◌, ◌<◌, ◌≡◌, Bool, cond, not, ◌&&◌, ◌||◌, List, length, get_or, leb, ltb, eqb, Ok, Err}
use Rattle.rules.specs.declared.Refusal.{Refusal}
use Rattle.rules.specs.declared.Refusal.TheVariants.{OutOfLimits, NoSuchTrack, EmptyTrack, BadPair, PairOrder}
use Rattle.rules.specs.Limits.{max_units, max_tracks, max_needs}
use Rattle.rules.specs.Refusals.{unless, ◌then◌, Verdict}
use Rattle.rules.specs.Ranges.{count, first}

pub record Listing : Type 0 where
  pub n : ℕ
  pub k : ℕ
  pub tracks : List ℕ
  pub needs : List ℕ

abbrev pub listing : ℕ → ℕ → List ℕ → List ℕ → Listing
listing n k tracks needs = record { n = n; k = k; tracks = tracks; needs = needs }

-- ---- the track list

-- the track of unit u
unfoldable pub track : List ℕ → ℕ → ℕ
track ts u = get_or ts (u - 1) 0

-- how many of the units 1 to m are in track q
unfoldable pub in_track : List ℕ → ℕ → ℕ → ℕ
in_track ts q m = count (λ i. eqb (get_or ts i 0) q) m

-- the length of track q
abbrev pub size : List ℕ → ℕ → ℕ
size ts q = in_track ts q (length ts)

-- the position of unit u in its track, from 1
abbrev pub position : List ℕ → ℕ → ℕ
position ts u = in_track ts (track ts u) u

-- ---- the need list

abbrev pub pairs : List ℕ → ℕ
pairs l = length l / 2

-- the units u and v of pair i
abbrev pub upper : List ℕ → ℕ → ℕ
upper l i = get_or l (2 * i) 0

abbrev pub lower : List ℕ → ℕ → ℕ
lower l i = get_or l (2 * i + 1) 0

-- the pair (u, v) is listed
pub record Listed (l : List ℕ) (u v : ℕ) : Type 0 where
  pub at : ℕ
  pub within : at < pairs l
  pub first_is : upper l at ≡ u
  pub second_is : lower l at ≡ v

-- ---- refusals 1 to 5, in the order of their numbers

-- from a to b
abbrev pub within : ℕ → ℕ → ℕ → Bool
within a b x = leb a x && leb x b

-- the first number below m at which something is bad, as a refusal
unfoldable pub refuse_first : (ℕ → Bool) → ℕ → (ℕ → Refusal) → Verdict
refuse_first bad m refusal = cond (ltb (first bad m) m) (Err (refusal (first bad m))) (Ok tt)

-- a need list of even length with at most 8,192 pairs
unfoldable pub counted_needs : List ℕ → Bool
counted_needs l = eqb (length l % 2) 0 && leb (pairs l) max_needs

unfoldable pub in_limits : Listing → Bool
in_limits c = within 1 max_units c.n && within 1 max_tracks c.k && counted_needs c.needs && eqb (length c.tracks) c.n

-- 4: u or v is not 1 to n, or v is not below u
unfoldable pub bad_units : ℕ → ℕ → ℕ → Bool
bad_units n u v = not (within 1 n u && within 1 n v && ltb v u)

unfoldable pub bad_pair : ℕ → List ℕ → ℕ → Bool
bad_pair n l i = bad_units n (upper l i) (lower l i)

-- the pair (u, v) is above the pair (a, b): by the first unit, then by the second
unfoldable pub units_above : ℕ → ℕ → ℕ → ℕ → Bool
units_above u v a b = ltb a u || (eqb a u && ltb b v)

-- 5: pair i is not above the one before it
unfoldable pub out_of_order : List ℕ → ℕ → Bool
out_of_order l i = ltb 0 i && not (units_above (upper l i) (lower l i) (upper l (i - 1)) (lower l (i - 1)))

-- refusals 4 and 5 of a need list, over the units 1 to n
unfoldable pub pairs_verdict : ℕ → List ℕ → Verdict
pairs_verdict n l = refuse_first (bad_pair n l) (pairs l) BadPair then refuse_first (out_of_order l) (pairs l) PairOrder

-- refusals 1 to 5
unfoldable pub listing_verdict : Listing → Verdict
listing_verdict c =
    unless (in_limits c) OutOfLimits
    then refuse_first (λ i. leb c.k (get_or c.tracks i 0)) c.n (λ i. NoSuchTrack (i + 1))
    then refuse_first (λ q. eqb (size c.tracks q) 0) c.k EmptyTrack
    then pairs_verdict c.n c.needs
