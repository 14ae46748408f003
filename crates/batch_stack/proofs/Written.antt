-- a writer that is begun with what a try drafted stores its record, word by word
use Rattle.std.proofs.Common.{◌≡◌, ℕ, ◌+◌, ◌<◌, ◌==◌, Bool, true, false, List, length, refl, sym, ap, ◌∙◌, subst, arith}
use Rattle.std.specs.Prelude.{drop}
use Rattle.std.proofs.lemmas.Bool.Decides.{nat_tests}
use Rattle.std.proofs.lemmas.List.{get_or_append_left}
use Rattle.word_layout.specs.Names.{record_words}
use Rattle.word_layout.specs.declared.announced.Wish.{Wish}
use Rattle.word_layout.specs.declared.announced.Wish.TheVariants.{Take}
use Rattle.transfer_machine.specs.Loads.{loaded_tag}
use Rattle.transfer_machine.specs.Stages.{is_rest}
use Rattle.transfer_machine.specs.Tries.{drafted_value}
use Rattle.transfer_machine.specs.declared.stage.TryStep.TheVariants.{StoreRecordWord}
use Rattle.transfer_machine.specs.declared.transfer.TransferView.{TransferView}
use Rattle.transfer_machine.specs.declared.try_draft.TryDraft.{TryDraft}
use Rattle.pool_machine.specs.declared.view.ProcessView.{ProcessView}
use Rattle.interleaving_core.specs.Moves.{moving_view}
use Rattle.pool_table.specs.declared.about.About.TheVariants.{Alone}
use Rattle.pool_table.specs.Views.{SeatView}
use Rattle.pool_table.specs.Steps.{CanStep}
use Rattle.versioned_records.specs.declared.writer.WriteStep.{WriteStep}
use Rattle.versioned_records.specs.declared.writer.WriteStep.TheVariants.{Going}
use Rattle.versioned_records.specs.Writing.{Writing, CanWrite, CanWriteOn, HasWrittenOn, begun, next_value}
use Rattle.versioned_records.proofs.Writing.{more_tests}
use Rattle.batch_stack.specs.Alone.{GoesAlone, HasDrafted, WritesAlone}
use Rattle.batch_stack.specs.Running.{Running, IsInTry}
use Rattle.pool_table.proofs.Transfers.{turns_same}
use Rattle.batch_stack.proofs.Alone.{turns_at_rest}
use Rattle.batch_stack.proofs.InTry.{any_wish_can, any_wish_agrees}
use Rattle.batch_stack.proofs.Parts.{part_stores}

-- what a process begins leaves its draft
draft_by : (wish : Wish) (v : ProcessView) (rest : Bool) → is_rest v.transfer.next ≡ rest
    → (moving_view wish v).transfer.draft ≡ v.transfer.draft
draft_by wish v true e = ap (λ (z : ProcessView). z.transfer.draft) (turns_at_rest wish v e)
draft_by wish v false e = ap (λ (z : ProcessView). z.transfer.draft) (turns_same wish v e)

draft_stays : (wish : Wish) (v : ProcessView) → (moving_view wish v).transfer.draft ≡ v.transfer.draft
draft_stays wish v = draft_by wish v (is_rest v.transfer.next) refl

-- the writer begins
begun_writes : (v : SeatView) (t : TransferView) (o : Writing) (tag row : ℕ) (values : List ℕ) → GoesAlone o.sizes v t
    → IsInTry t (StoreRecordWord 0) → HasDrafted o.sizes t values → tag ≡ loaded_tag t.loaded + 1 → row ≡ t.next_record
    → WritesAlone v (begun tag row values o)
begun_writes v t o tag row values goes tries drafted tagged placed =
    let w = begun tag row values o in
    let kept : v.mind.view.transfer.draft ≡ t.draft =
    sym (draft_stays t.wish v.mind.view) ∙ ap (λ (u : TransferView). u.draft) goes.agrees.same in
    record {
      on = λ next. (
        any_wish_can o.sizes v t (StoreRecordWord 0) next goes tries,
        λ met.
            part_stores o.sizes (Alone next) v t tag row 0 (next_value w) (any_wish_agrees o.sizes v t (StoreRecordWord 0) next goes tries)
            tries tagged placed (sym met ∙ ap (λ (d : TryDraft). drafted_value o.sizes.processes d 0) kept),
      );
      within = omega arith;
      same = λ index lt.
          let there : index < length values = omega (arith, lt, drafted.all) in
          ap (λ (d : TryDraft). drafted_value o.sizes.processes d index) kept
          ∙ (drafted.same index lt ∙ sym (get_or_append_left values (drop (length values) o.values) 0 index there));
    }

-- the same of a transfer by its fields
pub begun_writes_seen : (q old : Running) (v : SeatView) (o w : Writing) (tag row : ℕ) (values : List ℕ) → q ≡ old
    → GoesAlone old.sizes v old.part → IsInTry old.part (StoreRecordWord 0) → HasDrafted old.sizes old.part values
    → tag ≡ loaded_tag q.part.loaded + 1 → row ≡ q.part.next_record → o.sizes ≡ q.sizes → w ≡ begun tag row values o → WritesAlone v w
begun_writes_seen q old v o w tag row values e goes tries drafted tagged placed same begins =
    let sizes = ap (λ (z : Running). z.sizes) e in
    subst (WritesAlone v) (sym begins)
    (begun_writes v q.part o tag row values
    (subst (λ z. GoesAlone z v q.part) (sym same) (subst (λ (z : Running). GoesAlone z.sizes v z.part) (sym e) goes))
    (subst (λ (z : Running). IsInTry z.part (StoreRecordWord 0)) (sym e) tries)
    (subst (λ z. HasDrafted z q.part values) (sym same) (subst (λ (z : Running). HasDrafted z.sizes z.part values) (sym e) drafted))
    tagged placed)

-- its next value is stored
pub writes_can : (v : SeatView) (w : Writing) → WritesAlone v w → CanStep w.sizes (Alone Take) v
writes_can v w h = (h.on Take).0

-- a writer alone may write on
pub writes_next : (v : SeatView) (w : Writing) → WritesAlone v w → CanWrite (Alone Take) v w
writes_next v w h = (h.on Take).1 (h.same w.index h.within)

-- and it goes on
pub writes_on : (v x : SeatView) (w s : Writing) (answer : WriteStep) → WritesAlone v w → HasWrittenOn (Alone Take) v w x s answer
    → CanWriteOn w.sizes (Alone Take) x s → answer ≡ Going → WritesAlone x s
writes_on v x w s answer h written on goes =
    let kept = written.drafted ∙ draft_stays Take v.mind.view in
    let more = more_tests (w.index + 1 == record_words w.sizes) (sym written.answered ∙ goes) in
    let low = h.within in
    subst (WritesAlone x) (sym written.written) (record {
      on = subst (CanWriteOn w.sizes (Alone Take) x) written.written on;
      within = grind (arith, nat_tests);
      same = λ index lt. ap (λ (d : TryDraft). drafted_value w.sizes.processes d index) kept ∙ h.same index lt;
    })

-- writing on keeps the sizes
pub write_keeps_sizes : (v x : SeatView) (w s : Writing) (answer : WriteStep) → HasWrittenOn (Alone Take) v w x s answer
    → s.sizes ≡ w.sizes
write_keeps_sizes v x w s answer written = ap (λ (z : Writing). z.sizes) written.written
