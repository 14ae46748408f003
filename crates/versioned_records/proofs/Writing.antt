-- the writing of a whole record: its words are those that its process stores
use Rattle.std.proofs.Common.{◌≡◌, ℕ, ◌+◌, ◌<◌, ◌≤◌, ◌==◌, Bool, true, false, refl, sym, ap, ◌∙◌, subst, arith}
use Rattle.std.specs.Prelude.{if◌then◌else◌}
use Rattle.word_layout.specs.Sizes.{Sizes}
use Rattle.word_layout.specs.Names.{record_words}
use Rattle.word_layout.specs.declared.name.WordName.TheVariants.{RecordWord}
use Rattle.transfer_machine.specs.Machine.{met_at, met_of, after_stored}
use Rattle.transfer_machine.specs.Stages.{is_rest}
use Rattle.transfer_machine.specs.Tries.{drafted_value}
use Rattle.transfer_machine.specs.declared.action.Action.TheVariants.{Store}
use Rattle.transfer_machine.specs.declared.stage.NextStep.TheVariants.{Try}
use Rattle.transfer_machine.specs.declared.transfer.TransferView.{TransferView}
use Rattle.interleaving_core.specs.Steps.{next_action}
use Rattle.pool_table.specs.declared.about.About.{About}
use Rattle.pool_table.specs.declared.about.About.TheVariants.{Alone, InCall}
use Rattle.pool_table.specs.Turns.{turning}
use Rattle.pool_table.specs.Views.{SeatView}
use Rattle.pool_table.specs.Steps.{CanStep, Stepped}
use Rattle.pool_table.specs.Transfers.{Agrees, transfer_about}
use Rattle.pool_table.proofs.Transfers.{due_there, transfer_steps, goes_on_alone}
use Rattle.versioned_records.specs.declared.writer.WriteStep.{WriteStep}
use Rattle.versioned_records.specs.declared.writer.WriteStep.TheVariants.{Going, Written}
use Rattle.versioned_records.specs.Stores.{IsToStore, write_step}
use Rattle.versioned_records.proofs.Storing.{StoreFits, store_is_next, store_fits, store_leaves}
use Rattle.versioned_records.specs.Writing.{Writing, CanWrite, CanWriteOn, HasWrittenOn, next_word, next_value, wrote}

-- the transfer after such a store
stored_is : (sizes : Sizes) (t : TransferView) (tag row index value word : ℕ) (d : IsToStore sizes t tag row index value)
    → met_of sizes t word ≡ record t { next = Try d.second (after_stored sizes index) }
stored_is sizes t tag row index value word d = ap (met_at sizes t word) d.next

-- where that wasn't the last word, the next is to be stored
pub more_tests : (last : Bool) → (if last then Written else Going) ≡ Going → last ≡ false
more_tests true e = absurd (cc)
more_tests false e = refl

goes_to_next : (sizes : Sizes) (t : TransferView) (tag row index value next : ℕ) (d : IsToStore sizes t tag row index value)
    → (index + 1 == record_words sizes) ≡ false → drafted_value sizes.processes t.draft (index + 1) ≡ next
    → IsToStore sizes (record t { next = Try d.second (after_stored sizes index) }) tag row (index + 1) next
goes_to_next sizes t tag row index value next d e drafted =
    rw e (record { second = d.second; next = refl; same_tag = d.same_tag; same_row = d.same_row; same_value = drafted })

-- the store of a writer's next value, as it happened
module _ (a : About) (v x : SeatView) (w : Writing) (c : CanStep w.sizes a v) (writes : CanWrite a v w)
    (s : Stepped a v (next_word w) x) where
  own_agrees : Agrees a v (transfer_about a v)
  own_agrees = record { same = refl; moves = writes.moves }

  mirrors : x.mind.view.transfer ≡ met_of w.sizes (transfer_about a v) (next_word w)
  mirrors = transfer_steps w.sizes a v x (transfer_about a v) (met_of w.sizes (transfer_about a v) (next_word w)) (next_word w) c own_agrees
      s refl

  keeps_draft : x.mind.view.transfer.draft ≡ (transfer_about a v).draft
  keeps_draft =
      let t = transfer_about a v in
      ap (λ (u : TransferView). u.draft) (mirrors ∙ stored_is w.sizes t w.tag w.row w.index (next_value w) (next_word w) writes.stores)

  has_written_on : (answer : WriteStep) → answer ≡ write_step w.sizes w.index → HasWrittenOn a v w x (wrote w) answer
  has_written_on answer e = record { stepped = s; answered = e; written = refl; drafted = keeps_draft }

-- outside any call the writer goes on
can_write_on : (a : About) (v x : SeatView) (w : Writing) → CanStep w.sizes a v → CanWrite a v w → Stepped a v (next_word w) x
    → (answer : WriteStep) → answer ≡ write_step w.sizes w.index → answer ≡ Going → CanWriteOn w.sizes a x (wrote w)
can_write_on (Alone wish) v x w c writes s answer e goes =
    let t = transfer_about (Alone wish) v in
    let d = writes.stores in
    let u = met_of w.sizes t (next_word w) in
    let is = stored_is w.sizes t w.tag w.row w.index (next_value w) (next_word w) d in
    let more = more_tests (w.index + 1 == record_words w.sizes) (sym e ∙ goes) in
    let rest : is_rest u.next ≡ false = ap (λ (z : TransferView). is_rest z.next) is in
    let draft = keeps_draft (Alone wish) v x w c writes s in
    λ next.
    let on = goes_on_alone w.sizes wish next v x t u (next_word w) c (own_agrees (Alone wish) v x w c writes s) s refl rest in (
      on.0,
      λ drafted.
          let its = ap (λ z. drafted_value w.sizes.processes z (w.index + 1)) (sym draft) ∙ drafted in
          let next_value_of = next_value (wrote w) in
          record {
            moves = on.1.moves;
            stores = subst (λ z. IsToStore w.sizes z w.tag w.row (w.index + 1) next_value_of) (sym (on.1.same ∙ is))
                (goes_to_next w.sizes t w.tag w.row w.index (next_value w) next_value_of d more its);
          },
    )
can_write_on (InCall call) v x w c writes s answer e goes = tt

-- the same of a writer's fields, before and after
pub store_seen : (a b : About) (v : SeatView) (w old : Writing) → w ≡ old → b ≡ a → CanWrite a v old
    → Store (RecordWord w.row w.index) (next_word w) ≡ next_action w.sizes (turning b v.mind.view)
store_seen a b v w old e same writes =
    subst (λ z. Store (RecordWord w.row w.index) (next_word w) ≡ next_action w.sizes (turning z v.mind.view)) (sym same)
    (store_is_next w.sizes a v w.tag w.row w.index (next_value w) (next_word w) (subst (CanWrite a v) (sym e) writes) refl)

-- a writer's next word fits
pub fits_seen : (a : About) (v : SeatView) (w old : Writing) → w ≡ old → CanStep old.sizes a v → CanWrite a v old
    → StoreFits w.sizes w.tag w.index (next_value w)
fits_seen a v w old e can writes =
    subst (λ (o : Writing). StoreFits o.sizes o.tag o.index (next_value o)) (sym e)
    (store_fits old.sizes a v old.tag old.row old.index (next_value old) can writes)

-- its index is below the most words of a record
pub below_seen : (a : About) (v : SeatView) (w old : Writing) → w ≡ old → CanStep old.sizes a v → CanWrite a v old → w.index < 66
below_seen a v w old e can writes =
    let d = due_there old.sizes a v can in
    let small : old.sizes.processes ≤ 32 = subst (λ (z : Sizes). z.processes ≤ 32) can.shape d.due.table.shape.few_processes in
    let within = (store_fits old.sizes a v old.tag old.row old.index (next_value old) can writes).within in
    subst (λ (o : Writing). o.index < 66) (sym e) (omega (arith, small, within))

module _ (a b : About) (v x : SeatView) (w old s : Writing) (word : ℕ) (answer : WriteStep) (e : w ≡ old) (same : b ≡ a)
    (can : CanStep old.sizes a v) (writes : CanWrite a v old) (stepped : Stepped b v word x)
    (answered : answer ≡ write_step w.sizes w.index) (after : s ≡ wrote w) where
  can_so : CanStep w.sizes a v
  can_so = subst (λ (o : Writing). CanStep o.sizes a v) (sym e) can

  writes_so : CanWrite a v w
  writes_so = subst (CanWrite a v) (sym e) writes

  leaves : Stepped a v (next_word w) x
  leaves =
      let met = subst (λ z. Stepped z v word x) same stepped in
      store_leaves w.sizes a v x w.tag w.row w.index (next_value w) (next_word w) word can_so writes_so refl met

  pub written_seen : HasWrittenOn a v old x s answer
  written_seen =
      let written = has_written_on a v x w can_so writes_so leaves answer answered in
      subst (λ o. HasWrittenOn a v o x s answer) e (subst (λ z. HasWrittenOn a v w x z answer) (sym after) written)

  pub write_on_seen : answer ≡ Going → CanWriteOn old.sizes a x s
  write_on_seen goes =
      let on = can_write_on a v x w can_so writes_so leaves answer answered goes in
      subst (λ (o : Writing). CanWriteOn o.sizes a x s) e (subst (CanWriteOn w.sizes a x) (sym after) on)
