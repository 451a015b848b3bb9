-- The bytes that wait in a block: which they are before a read, and after it.
use Rattle.std.specs.Prelude.{ℕ, ◌+◌, ◌-◌, ◌≤◌, ◌<◌, min, ◌≡◌, Bool, true, false, List, [], ◌++◌, ◌⊎◌, Result, Ok, Err, length, take, drop}
use Rattle.blocks.specs.declared.Waiting.{Waiting}

-- the bytes from one place up to another
abbrev pub part : List ℕ → ℕ → ℕ → List ℕ
part bytes from end = take (end - from) (drop from bytes)

-- ---- a read

-- what a read's answer says of a block of so many bytes, of which the first are there: an error that it failed, else so many came behind them
unfoldable pub filled_by : {E : Type 0} → Result ℕ E → ℕ → ℕ → Result ℕ E
filled_by (Ok got) have size = Ok (have + min got (size - have))
filled_by (Err e) have size = Err e

-- the bytes behind the first so many of those that wait
abbrev pub behind : ℕ → Waiting → List ℕ → List ℕ
behind waited waiting bytes = drop waited (part bytes waiting.from waiting.end)

-- what comes behind the bytes that wait: nothing where a whole line waits or the file has ended, else one byte at least
pub record Came (waiting : ℕ) (came : List ℕ) (ended : Bool) : Type 0 where
  pub ended_is : ended ≡ true → (waiting < 11) × (came ≡ [])
  pub brought : ended ≡ false → ((11 ≤ waiting) × (came ≡ [])) ⊎ (1 ≤ length came)

-- some bytes came behind those that wait
pub record Refilled (bytes : List ℕ) (from end : ℕ) (waiting : Waiting) (bytes' : List ℕ) : Type 0 where
  pub came : List ℕ
  pub came_so : Came (end - from) came waiting.ended
  pub waits : part bytes' waiting.from waiting.end ≡ part bytes from end ++ came
  pub start_in : waiting.from ≤ waiting.end
  pub end_in : waiting.end ≤ length bytes'

-- a read failed: none is tried where a whole line waits, and what waits stands at the front
pub record NotRefilled (bytes : List ℕ) (from end : ℕ) (bytes' : List ℕ) : Type 0 where
  pub few : end - from < 11
  pub waits : part bytes' 0 (end - from) ≡ part bytes from end
  pub end_in : end - from ≤ length bytes'
