-- a process in the middle of a try outside any call goes on whatever wish is named, and so does a reader of the record that it loads
use Rattle.std.proofs.Common.{◌≡◌, ℕ, ◌+◌, ◌<◌, ◌^◌, Bool, true, false, refl, sym, ap, ◌∙◌, subst, arith}
use Rattle.atomic_table.specs.Seated.{TableId}
use Rattle.word_table.specs.Seats.{Seated}
use Rattle.word_layout.specs.Sizes.{Sizes}
use Rattle.word_layout.specs.Names.{table_words}
use Rattle.word_layout.specs.declared.announced.Wish.{Wish}
use Rattle.word_layout.specs.declared.announced.Wish.TheVariants.{Take}
use Rattle.transfer_machine.specs.Loads.{loaded_tag, loaded_record}
use Rattle.transfer_machine.specs.Machine.{met_of, CanAct, CanMeet}
use Rattle.transfer_machine.specs.Stages.{is_rest}
use Rattle.transfer_machine.specs.declared.stage.NextStep.TheVariants.{Announce}
use Rattle.transfer_machine.specs.declared.stage.TryStep.{TryStep}
use Rattle.transfer_machine.specs.declared.stage.TryStep.TheVariants.{LoadRecordWord, LoadAnnouncement}
use Rattle.transfer_machine.specs.declared.transfer.TransferView.{TransferView}
use Rattle.pool_machine.specs.declared.view.ProcessView.{ProcessView}
use Rattle.interleaving_core.specs.Moves.{may_go_alone}
use Rattle.interleaving_core.specs.TransferLaws.{moves_transfer}
use Rattle.pool_table.specs.declared.about.About.TheVariants.{Alone}
use Rattle.pool_table.specs.Views.{SeatView}
use Rattle.pool_table.specs.Steps.{CanStep, MayStep, Stepped}
use Rattle.pool_table.specs.Transfers.{Agrees}
use Rattle.pool_table.proofs.Transfers.{transfer_can_act, transfer_can_meet, turns_same}
use Rattle.announce.specs.Heard.{LoadsAnnouncement}
use Rattle.versioned_records.specs.declared.reader.ReadStep.{ReadStep}
use Rattle.versioned_records.specs.Reading.{Reading, CanReadOn, HasReadOn, opened, begun}
use Rattle.batch_stack.specs.declared.progress.Progress.TheVariants.{Going}
use Rattle.batch_stack.specs.Alone.{GoesAlone, ReadsAlone}
use Rattle.batch_stack.specs.Running.{Running, IsInTry, progress_at}
use Rattle.batch_stack.proofs.Alone.{turns_at_rest}
use Rattle.batch_stack.proofs.Bounds.{goes_on}
use Rattle.batch_stack.proofs.Parts.{part_loads, part_hears}

-- a process whose transfer is in a try isn't at rest
busy_by : (v : SeatView) (t : TransferView) (s : TryStep) (rest : Bool) → is_rest v.mind.view.transfer.next ≡ rest
    → Agrees (Alone t.wish) v t → IsInTry t s → rest ≡ false
busy_by v t s false e agrees (second, tries) = refl
busy_by v t s true e agrees (second, tries) =
    let turns = turns_at_rest t.wish v.mind.view e in
    let begins : t.next ≡ Announce =
    ap (λ (u : TransferView). u.next) (sym agrees.same) ∙ ap (λ (z : ProcessView). z.transfer.next) turns in
    absurd (grind (arith, begins, tries))

is_busy : (sizes : Sizes) (v : SeatView) (t : TransferView) (s : TryStep) → GoesAlone sizes v t → IsInTry t s
    → is_rest v.mind.view.transfer.next ≡ false
is_busy sizes v t s goes tries = busy_by v t s (is_rest v.mind.view.transfer.next) refl goes.agrees tries

-- so it may make its next step whatever wish is named
may_go_busy : (sizes : Sizes) (wish next : Wish) (v : ProcessView) → is_rest v.transfer.next ≡ false → may_go_alone sizes wish v ≡ true
    → may_go_alone sizes next v ≡ true
may_go_busy sizes wish next v busy may = let goes = rw busy at may in rw busy goes

-- in a try the step may be made whatever is wished
pub any_wish_can : (sizes : Sizes) (v : SeatView) (t : TransferView) (s : TryStep) (next : Wish) → GoesAlone sizes v t → IsInTry t s
    → CanStep sizes (Alone next) v
any_wish_can sizes v t s next goes tries =
    let can = goes.can in
    record {
      of_process = can.of_process;
      shape = can.shape;
      may = may_go_busy sizes t.wish next v.mind.view (is_busy sizes v t s goes tries) can.may;
      among = can.among;
    }

-- and the view is that of its seat
pub any_wish_agrees : (sizes : Sizes) (v : SeatView) (t : TransferView) (s : TryStep) (next : Wish) → GoesAlone sizes v t → IsInTry t s
    → Agrees (Alone next) v t
any_wish_agrees sizes v t s next goes tries =
    let busy = is_busy sizes v t s goes tries in
    let same = turns_same next v.mind.view busy ∙ sym (turns_same t.wish v.mind.view busy) in
    record {
      same = ap (λ (z : ProcessView). z.transfer) same ∙ goes.agrees.same;
      moves = subst (λ z. moves_transfer z ≡ true) (sym same) goes.agrees.moves;
    }

-- a reader that is begun with the state that the try loaded reads its record, word by word
pub begun_reads : (sizes : Sizes) (v : SeatView) (t : TransferView) (r s : Reading) (tag row : ℕ) → GoesAlone sizes v t
    → IsInTry t (LoadRecordWord 0) → tag ≡ loaded_tag t.loaded → row ≡ loaded_record t.loaded → r ≡ opened sizes → s ≡ begun tag row r
    → ReadsAlone v s
begun_reads sizes v t r s tag row goes tries tagged placed e begins = subst (ReadsAlone v) (sym begins) (record {
  on = rw e (λ next. (
    any_wish_can sizes v t (LoadRecordWord 0) next goes tries,
    record {
      going = refl;
      loads = part_loads (Alone next) v t tag row 0 (any_wish_agrees sizes v t (LoadRecordWord 0) next goes tries) tries tagged placed;
      same = λ k lt. absurd (omega (arith, lt));
    },
  ));
})

-- the same of a transfer by its fields
pub begun_reads_seen : (q old : Running) (v : SeatView) (r s : Reading) (tag row : ℕ) → q ≡ old → GoesAlone old.sizes v old.part
    → IsInTry old.part (LoadRecordWord 0) → tag ≡ loaded_tag q.part.loaded → row ≡ loaded_record q.part.loaded → r ≡ opened q.sizes
    → s ≡ begun tag row r → ReadsAlone v s
begun_reads_seen q old v r s tag row e goes tries =
    begun_reads q.sizes v q.part r s tag row (subst (λ (o : Running). GoesAlone o.sizes v o.part) (sym e) goes)
    (subst (λ (o : Running). IsInTry o.part (LoadRecordWord 0)) (sym e) tries)

-- a reader that has read on reads on alone
pub reads_on : (v x : SeatView) (r s : Reading) (answer : ReadStep) → HasReadOn (Alone Take) v r x s answer
    → CanReadOn r.sizes (Alone Take) x s → ReadsAlone x s
reads_on v x r s answer (word, read) on =
    record { on = subst (λ z. CanReadOn z (Alone Take) x s) (sym (ap (λ (z : Reading). z.sizes) read.read)) on }

-- reading on keeps the sizes
pub read_keeps_sizes : (v x : SeatView) (r s : Reading) (answer : ReadStep) → HasReadOn (Alone Take) v r x s answer → s.sizes ≡ r.sizes
read_keeps_sizes v x r s answer (word, read) = ap (λ (z : Reading). z.sizes) read.read

-- and leaves how far it came
pub read_reached : (v x : SeatView) (r s : Reading) (answer : ReadStep) → HasReadOn (Alone Take) v r x s answer → s.reached ≡ answer
read_reached v x r s answer (word, read) = ap (λ (z : Reading). z.reached) read.read

-- what a step asks that another makes for the transfer
pub may_step : (q : Running) (table : TableId) (seat : Seated SeatView) (s : TryStep) (steps : ℕ) → seat.table ≡ table
    → table.words ≡ table_words q.sizes → GoesAlone q.sizes seat.view q.part → IsInTry q.part s → steps + 1 < 2 ^ 64
    → MayStep q.sizes (Alone Take) table seat steps
may_step q table seat s steps same whole goes tries room =
    record { of_table = same; whole = whole; room = room; can = any_wish_can q.sizes seat.view q.part s Take goes tries }

-- a transfer that is to load an announcement may
pub hears_there : (q : Running) (v : SeatView) (process : ℕ) → GoesAlone q.sizes v q.part → IsInTry q.part (LoadAnnouncement process)
    → LoadsAnnouncement (Alone Take) v process
hears_there q v process goes tries =
    part_hears (Alone Take) v q.part process (any_wish_agrees q.sizes v q.part (LoadAnnouncement process) Take goes tries) tries

-- a transfer goes on that meets the word of such a step
module _ (q old : Running) (v x : SeatView) (s : TryStep) (word : ℕ) (e : q ≡ old) (goes_old : GoesAlone old.sizes v old.part)
    (tries_old : IsInTry old.part s) (stepped : Stepped (Alone Take) v word x) where
  goes : GoesAlone q.sizes v q.part
  goes = subst (λ (o : Running). GoesAlone o.sizes v o.part) (sym e) goes_old

  tries : IsInTry q.part s
  tries = subst (λ (o : Running). IsInTry o.part s) (sym e) tries_old

  can : CanStep q.sizes (Alone Take) v
  can = any_wish_can q.sizes v q.part s Take goes tries

  agrees : Agrees (Alone Take) v q.part
  agrees = any_wish_agrees q.sizes v q.part s Take goes tries

  pub may_act : CanAct q.sizes q.part
  may_act = transfer_can_act q.sizes (Alone Take) v q.part can agrees

  pub may_meet : CanMeet q.sizes q.part word
  may_meet = transfer_can_meet q.sizes (Alone Take) v x q.part word can agrees stepped

  pub follows : (u : TransferView) → u ≡ met_of q.sizes q.part word → GoesAlone q.sizes x u
  follows u part =
      let answered : Going ≡ progress_at q.part.next u.answer = sym (ap (λ n. progress_at n u.answer) tries.1) in
      let on = (goes_on q.sizes (Alone Take) v x q.part u word Going can agrees stepped part answered refl).goes u.wish in
      record { can = on.0; agrees = on.1 }
