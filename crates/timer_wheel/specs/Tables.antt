-- What a wheel keeps of its places, its free ones, its lists and its running timers.
use Rattle.std.specs.Prelude.{◌≡◌, ◌≢◌, ◌⊎◌, ℕ, ◌<◌, ◌≤◌, Some, None, List, [], ◌∷◌, length, slice_index, slice_index_or}
use Rattle.object_store.specs.Objects.{ObjectView}
use Rattle.timer_wheel.specs.declared.record.TimerRecord.{TimerRecord}
use Rattle.timer_wheel.specs.declared.changes.Placed.{Placed}
use Rattle.timer_wheel.specs.declared.chain.Chain.{Chain}
use Rattle.timer_wheel.specs.Backs.{AreBacks}
use Rattle.timer_wheel.specs.Places.{Places, IsChain, AreApart, in_list, object_at}

-- a fact of each of some timers
abbrev pub Each : (Placed → Type 0) → List Placed → Type 0
Each Fact [] = Unit {0}
Each Fact (t ∷ ts) = Fact t × Each Fact ts

-- no two have one number
abbrev pub AreDistinct : List Placed → Type 0
AreDistinct [] = Unit {0}
AreDistinct (t ∷ ts) = Each (λ other. other.number ≢ t.number) ts × AreDistinct ts

-- one of them stands at the place
abbrev pub HasPlace : List Placed → ℕ → Type 0
HasPlace [] place = ⊥
HasPlace (t ∷ ts) place = (t.place ≡ place) ⊎ HasPlace ts place

-- the free places, from a count on: each has nothing, and each is there once
pub record AreFree (places : Places) (free : List ℕ) (count : ℕ) : Type 0 where
  pub all : length free ≡ length places
  pub within : (i : ℕ) → count ≤ i → i < length free → slice_index free i < length places
  pub empty : (i : ℕ) → count ≤ i → i < length free → object_at places (slice_index free i) ≡ None
  pub distinct : (i j : ℕ) → count ≤ i → i < j → j < length free → slice_index free i ≢ slice_index free j

-- each running timer stands in its list, in the order of starts, and nothing else stands at the places
pub record IsTable (places : Places) (free : List ℕ) (lists : List Chain) (running : List Placed) (count : ℕ) : Type 0 where
  pub some : 1 ≤ length lists
  pub chains : (k : ℕ) (d : Chain) → k < length lists → IsChain places (slice_index_or lists k d) (in_list (length lists) k running)
  pub distinct : AreDistinct running
  pub taken : (place : ℕ) (object : ObjectView TimerRecord) → object_at places place ≡ Some object → HasPlace running place
  pub apart : AreApart places
  pub many : length running ≡ count
  pub few : count ≤ length places
  pub frees : AreFree places free count

-- the room and the number of lists are within their limits
pub record IsSmall (places : Places) (lists : List Chain) : Type 0 where
  pub room : length places ≤ 1048576
  pub few : length lists ≤ 4096

-- all numbers are below this one
abbrev pub AreBelow : ℕ → List Placed → Type 0
AreBelow started running = Each (λ t. t.number < started) running

-- what a wheel keeps: a table of its timers, with links back, whose numbers are below the next one, within its limits
pub record IsWheel (places : Places) (free : List ℕ) (lists : List Chain) (backs : List ℕ) (running : List Placed)
    (count started : ℕ) : Type 0 where
  pub table : IsTable places free lists running count
  pub back : AreBacks backs (length places) (length lists) running
  pub small : IsSmall places lists
  pub below : AreBelow started running
