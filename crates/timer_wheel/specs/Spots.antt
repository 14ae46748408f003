-- Where a timer is found, and what its removal leaves.
use Rattle.std.specs.Prelude.{◌≡◌, ◌≢◌, ℕ, ◌<◌, Option, None, Some, List, [], ◌∷◌, ◌++◌}
use Rattle.timer_wheel.specs.declared.record.TimerRecord.{TimerRecord}
use Rattle.timer_wheel.specs.declared.changes.Placed.{Placed}
use Rattle.timer_wheel.specs.declared.changes.Change.{Change}
use Rattle.timer_wheel.specs.declared.changes.Change.TheVariants.{Began}
use Rattle.timer_wheel.specs.declared.chain.Spot.{Spot}
use Rattle.timer_wheel.specs.declared.key.Started.{Started}
use Rattle.timer_wheel.specs.declared.key.Started.TheVariants.{Running, Crowded, Full}
use Rattle.timer_wheel.specs.Places.{Places, Leads, Stands, in_list, last_link, record_of}
use Rattle.timer_wheel.specs.Tables.{Each}

-- the spot is that of this running timer, between these of its list
pub record IsSpotOf (places : Places) (lists : ℕ) (running : List Placed) (spot : Spot) (front : List Placed) (t : Placed)
    (rest : List Placed) : Type 0 where
  pub list : spot.list < lists
  pub chain : in_list lists spot.list running ≡ front ++ t ∷ rest
  pub before : spot.before ≡ last_link front
  pub place : spot.place ≡ t.place
  pub timer : spot.timer ≡ record_of t spot.timer.next
  pub stands : Stands places t spot.timer.next

-- it is that of some
pub record IsSpot (places : Places) (lists : ℕ) (running : List Placed) (spot : Spot) : Type 0 where
  pub front : List Placed
  pub t : Placed
  pub rest : List Placed
  pub is : IsSpotOf places lists running spot front t rest

-- none of the timers has the number
abbrev pub HaveNot : ℕ → List Placed → Type 0
HaveNot number running = Each (λ t. t.number ≢ number) running

-- the record, if there is one, has the number
abbrev pub HasNumber : ℕ → Option TimerRecord → Type 0
HasNumber number None = ⊥
HasNumber number (Some timer) = timer.number ≡ number

-- the spot of the timer with this number in a list, and none where no timer of the list has it
abbrev pub FoundIn : ℕ → Places → ℕ → ℕ → List Placed → Option Spot → Type 0
FoundIn number places lists list running None = HaveNot number (in_list lists list running)
FoundIn number places lists list running (Some spot) = IsSpot places lists running spot × (spot.timer.number ≡ number)

-- so among all running timers
abbrev pub FoundAmong : ℕ → Places → ℕ → List Placed → Option Spot → Type 0
FoundAmong number places lists running None = HaveNot number running
FoundAmong number places lists running (Some spot) = IsSpot places lists running spot × (spot.timer.number ≡ number)

-- once the timer is removed, the walk goes on behind it
abbrev pub GoesOn : Spot → Places → ℕ → List Placed → List Placed → Type 0
GoesOn spot places lists was running = (front rest : List Placed) (t : Placed) → in_list lists spot.list was ≡ front ++ t ∷ rest
    → spot.before ≡ last_link front
    → spot.place ≡ t.place
    → (in_list lists spot.list running ≡ front ++ rest) × Leads places spot.timer.next rest 0

-- the change that a start makes: a timer with this record began to run, which the key tells; or none
abbrev pub BeganSo : Started → TimerRecord → List Change → List Change → Type 0
BeganSo (Running key) timer old new =
    (key.number ≡ timer.number)
    × (new ≡ old ++ Began (record { number = timer.number; due = timer.due; payload = timer.payload; place = key.place }) ∷ [])
BeganSo Crowded timer old new = new ≡ old
BeganSo Full timer old new = new ≡ old
