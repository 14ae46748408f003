-- a process that makes transfers outside any call: in one of them, and between two
use Rattle.std.specs.Prelude.{◌≡◌, ◌≢◌, ℕ, ◌<◌, true, List, [], ◌∷◌, ◌++◌, length, slice_index}
use Rattle.atomic_table.specs.Seated.{TableId}
use Rattle.word_table.specs.Seats.{Seated, SameSeat}
use Rattle.word_layout.specs.Sizes.{Sizes}
use Rattle.word_layout.specs.Names.{record_words, table_words}
use Rattle.word_layout.specs.declared.announced.Wish.TheVariants.{Take}
use Rattle.transfer_machine.specs.Tries.{drafted_value}
use Rattle.transfer_machine.specs.declared.stage.NextStep.TheVariants.{Rest}
use Rattle.transfer_machine.specs.declared.transfer.TransferView.{TransferView}
use Rattle.pool_machine.specs.Conditions.{may_use_transfers}
use Rattle.pool_table.specs.declared.about.About.{About}
use Rattle.pool_table.specs.declared.about.About.TheVariants.{Alone, InCall}
use Rattle.pool_table.specs.Turns.{turning}
use Rattle.pool_table.specs.Views.{SeatView}
use Rattle.pool_table.specs.Steps.{Among, CanStep}
use Rattle.pool_table.specs.Transfers.{Agrees}
use Rattle.versioned_records.specs.Reading.{Reading, CanReadOn}
use Rattle.versioned_records.specs.Writing.{Writing, CanWriteOn}
use Rattle.batch_stack.specs.declared.progress.Progress.{Progress}
use Rattle.batch_stack.specs.declared.progress.Progress.TheVariants.{Going, Took, Empty, Gave}
use Rattle.batch_stack.specs.Running.{Running}

-- a process is in this transfer outside any call, and its next step is due, the first one or a later one
pub record GoesAlone (sizes : Sizes) (v : SeatView) (t : TransferView) : Type 0 where
  pub can : CanStep sizes (Alone t.wish) v
  pub agrees : Agrees (Alone t.wish) v t

-- a process that has begun no call is at rest: the last of its transfers, if any, is this one
pub record RestsAlone (sizes : Sizes) (v : SeatView) (t : TransferView) : Type 0 where
  pub of_process : v.of_process ≡ true
  pub shape : v.sizes ≡ sizes
  pub way : may_use_transfers v.mind.view.calls.way ≡ true
  pub same : v.mind.view.transfer ≡ t
  pub rest : t.next ≡ Rest
  pub among : Among v

-- a seat is of this table, which is of this shape
abbrev pub IsAt : TableId → Seated SeatView → Sizes → Type 0
IsAt table seat sizes = (seat.table ≡ table) × (table.words ≡ table_words sizes)

-- a process outside any call, by its seat and its transfers: in one of them, and between two
abbrev pub Goes : Seated SeatView → Running → Type 0
Goes seat t = GoesAlone t.sizes seat.view t.part

-- a running transfer is at rest, and its seat's process too
abbrev pub Rests : Seated SeatView → Running → Type 0
Rests seat t = RestsAlone t.sizes seat.view t.part

-- of that process only the view and the transfer moved
abbrev pub OnlyMoved : Seated SeatView → Running → Seated SeatView → Running → Type 0
OnlyMoved before t after u = SameSeat before after × (u.sizes ≡ t.sizes)

-- a process outside any call loads this reader's next word next
pub record ReadsAlone (v : SeatView) (r : Reading) : Type 0 where
  pub on : CanReadOn r.sizes (Alone Take) v r

-- a transfer drafted these values for its next record
pub record HasDrafted (sizes : Sizes) (t : TransferView) (values : List ℕ) : Type 0 where
  pub all : length values ≡ record_words sizes
  pub same : (index : ℕ) → index < record_words sizes → drafted_value sizes.processes t.draft index ≡ slice_index values index

-- a process outside any call stores this writer's next value next: it drafted all that the writer was begun with
pub record WritesAlone (v : SeatView) (w : Writing) : Type 0 where
  pub on : CanWriteOn w.sizes (Alone Take) v w
  pub within : w.index < record_words w.sizes
  pub same : (index : ℕ) → index < record_words w.sizes
      → drafted_value w.sizes.processes v.mind.view.transfer.draft index ≡ slice_index w.values index

-- the heads of its spares, the newest last
abbrev pub spares_in : SeatView → List ℕ
spares_in v = v.mind.view.pool.heads

-- the same once what a step is about is begun: a give takes the newest one away
abbrev pub spares_about : About → SeatView → List ℕ
spares_about about v = (turning about v.mind.view).pool.heads

-- the spares after a step that was answered so: a batch that was taken is the newest
abbrev pub spares_after : Progress → List ℕ → List ℕ
spares_after Going spares = spares
spares_after (Took head) spares = spares ++ head ∷ []
spares_after Empty spares = spares
spares_after Gave spares = spares

-- after a transfer nothing is begun; outside any call its process may begin another one
abbrev pub EndsAtRest : Sizes → About → SeatView → TransferView → Type 0
EndsAtRest sizes (Alone wish) x u = RestsAlone sizes x u
EndsAtRest sizes (InCall call) x u = u.next ≡ Rest

-- a process made steps of this transfer alone: it goes on with the spares that it had, or it is at rest, with a batch that it took besides
pub record Advanced (sizes : Sizes) (v : SeatView) (t : TransferView) (x : SeatView) (u : TransferView) (answer : Progress) : Type 0 where
  pub goes : answer ≡ Going → GoesAlone sizes x u
  pub kept : answer ≡ Going → spares_about (Alone u.wish) x ≡ spares_about (Alone t.wish) v
  pub rests : answer ≢ Going → RestsAlone sizes x u
  pub spares : answer ≢ Going → spares_in x ≡ spares_after answer (spares_about (Alone t.wish) v)

-- the same by its seat and its transfers
abbrev pub Played : Seated SeatView → Running → Seated SeatView → Running → Progress → Type 0
Played before t after u answer = Advanced t.sizes before.view t.part after.view u.part answer
