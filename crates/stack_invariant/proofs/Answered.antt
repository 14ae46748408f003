-- the last answer of a process that has announced no transfer stays its reply in the present state
use Rattle.std.proofs.Common.{◌≡◌, ℕ, ◌<◌, Bool, true, false, refl, sym, ap, ◌∙◌, inl, inr, arith}
use Rattle.std.specs.Prelude.{slice_index}
use Rattle.std.proofs.lemmas.Bool.{cases_eq}
use Rattle.std.proofs.lemmas.Bool.Decides.{nat_tests}
use Rattle.word_layout.specs.Sizes.{Sizes, IsShape}
use Rattle.word_layout.specs.Packing.{value_of, reply_of}
use Rattle.word_layout.specs.declared.announced.Wish.{Wish}
use Rattle.transfer_machine.specs.Machine.{action_of, met_in_try, met_at, met_of, begun}
use Rattle.transfer_machine.specs.Opening.{opening_transfer}
use Rattle.transfer_machine.specs.States.{StackState}
use Rattle.transfer_machine.specs.Tries.{is_pending}
use Rattle.transfer_machine.specs.Words.{name_of}
use Rattle.transfer_machine.specs.declared.transfer.TransferView.{TransferView}
use Rattle.transfer_machine.specs.declared.stage.NextStep.{NextStep}
use Rattle.transfer_machine.specs.declared.stage.NextStep.TheVariants.{Rest, Announce, Try, LoadFinalState, LoadReply}
use Rattle.transfer_machine.specs.declared.stage.TryStep.{TryStep}
use Rattle.transfer_machine.specs.declared.stage.TryStep.TheVariants.{LoadState, LoadRecordWord, LoadCoveredSlot, ExchangeSlot}
use Rattle.transfer_machine.specs.declared.stage.TryStep.TheVariants.{LoadAnnouncement, LoadPoppedSlot, StoreRecordWord, ExchangeState}
use Rattle.transfer_invariant.specs.Memory.{Words, Views, States, Acted, Moved}
use Rattle.transfer_invariant.specs.Installing.{states_after}
use Rattle.transfer_invariant.specs.OpeningState.{opening_state}
use Rattle.transfer_invariant.specs.Progress.{has_announced}
use Rattle.transfer_invariant.proofs.Keeps.{row_fits}
use Rattle.stack_invariant.specs.Gives.{present}
use Rattle.stack_invariant.specs.Laws.{HitsNot}
use Rattle.stack_invariant.specs.Loads.{AnswerStays}
use Rattle.stack_invariant.specs.Stack.{StackHolds}
use Rattle.stack_invariant.proofs.Exchanging.{Hits, hitting, present_stays, present_installed}
use Rattle.stack_invariant.proofs.Follows.{installed_next, replies_answer}
use Rattle.stack_invariant.proofs.NextReplies.{reply_stays}

-- in a transfer that is announced nothing is said
pub in_transfer : (s : StackState) (i : ℕ) (x : TransferView) → has_announced x.next ≡ true → AnswerStays s i x
in_transfer s i x e none = grind arith

-- after every step of a try it is
try_announced : (sizes : Sizes) (v : TransferView) (word : ℕ) (second : Bool) (step : TryStep)
    → has_announced (met_in_try sizes v word second step).next ≡ true
try_announced sizes v word second LoadState = refl
try_announced sizes v word second (LoadRecordWord index) = grind (arith, nat_tests)
try_announced sizes v word second (LoadCoveredSlot offset) = refl
try_announced sizes v word second (ExchangeSlot offset) = refl
try_announced sizes v word second (LoadAnnouncement process) = grind (arith, nat_tests)
try_announced sizes v word second (LoadPoppedSlot process) = refl
try_announced sizes v word second (StoreRecordWord index) = refl
try_announced sizes v word second ExchangeState = grind (arith, nat_tests)

exchange_announced : (sizes : Sizes) (v : TransferView) (word : ℕ) (second : Bool) → v.next ≡ Try second ExchangeState
    → has_announced (met_of sizes v word).next ≡ true
exchange_announced sizes v word second e = rw e (try_announced sizes v word second ExchangeState)

-- the view that moves, in a state that stays
met_answers : (sizes : Sizes) (v : TransferView) (word : ℕ) (s : StackState) (i : ℕ) (next : NextStep) → v.next ≡ next → AnswerStays s i v
    → (next ≡ LoadReply → value_of word ≡ s.reply i) → AnswerStays s i (met_at sizes v word next)
met_answers sizes v word s i Rest e h reply = h
met_answers sizes v word s i Announce e h reply = in_transfer s i (met_at sizes v word Announce) refl
met_answers sizes v word s i (Try second step) e h reply =
    in_transfer s i (met_at sizes v word (Try second step)) (try_announced sizes v word second step)
met_answers sizes v word s i LoadFinalState e h reply = in_transfer s i (met_at sizes v word LoadFinalState) refl
met_answers sizes v word s i LoadReply e h reply = λ none. ap reply_of (reply refl)

-- a process that begins a transfer has announced none yet
pub begun_answers : (s : StackState) (processes i : ℕ) (wish : Wish) (views after : Views) → i < processes
    → has_announced (views i).next ≡ false → Moved i (begun wish (views i)) views after
    → ((o : ℕ) → o < processes → AnswerStays s o (views o)) → (o : ℕ) → o < processes → AnswerStays s o (after o)
begun_answers s processes i wish views after li none moved h o lo = elim (cases_eq o i) [
  | inl e ↦ rw e (rw moved.here (λ _. h i li none))
  | inr ne ↦ rw (moved.elsewhere o ne) (h o lo)
]

-- the opening
pub opened_answers : (sizes : Sizes) (i : ℕ) → AnswerStays (opening_state sizes) i (opening_transfer i)
unfolding opening_state reply_of
opened_answers sizes i none = refl

module _ (sizes : Sizes) (words new : Words) (views after : Views) (states : States) (i : ℕ) (shape : IsShape sizes)
    (li : i < sizes.processes) (h : StackHolds sizes words views states) (acted : Acted sizes (action_of sizes (views i)) words new)
    (moved : Moved i (met_of sizes (views i) (words (name_of (action_of sizes (views i))))) views after) where
  -- a step that leaves the state
  stays : HitsNot (views i) words (views i).next → (o : ℕ) → o < sizes.processes
      → AnswerStays (present new (states_after words (views i) states)) o (after o)
  stays not o lo =
      let v = views i in
      let word = words (name_of (action_of sizes v)) in
      rw (present_stays sizes v words new states acted not) (elim (cases_eq o i) [
        | inl e ↦ rw e (rw moved.here
            (met_answers sizes v word (present words states) i v.next refl (h.answers i li)
            (λ last. rw last (replies_answer sizes words views states i li h last).reply)))
        | inr ne ↦ rw (moved.elsewhere o ne) (h.answers o lo)
      ])

  -- the state is exchanged: who has announced no transfer keeps its reply
  others_keep : (hits : Hits (views i) words (views i).next) (o : ℕ) → o < sizes.processes
      → AnswerStays (present new (states_after words (views i) states)) o (views o)
  others_keep hits o lo none =
      let v = views i in
      let row = row_fits sizes words i v shape.few_processes li (h.transfers.records.own i li) in
      let gives = installed_next sizes words views states i hits.second shape li h hits.here hits.same in
      let word = slice_index v.loaded.announcements o in
      let off : is_pending word ((present words states).reply o) ≡ false =
      isnt (is_pending word ((present words states).reply o)) (has_announced (views o).next) none (λ p. (gives.pending o lo p).announced) in
      rw (present_installed sizes v words new states hits.second row acted hits.here hits.same)
      (h.answers o lo none ∙ ap reply_of (sym (gives.next.reply o lo
      ∙ reply_stays (λ k. slice_index v.loaded.announcements k) (present words states) sizes.processes o off)))
    where
      isnt : (p announced : Bool) → announced ≡ false → (p ≡ true → announced ≡ true) → p ≡ false
      isnt p announced none so = grind arith

  installs : Hits (views i) words (views i).next → (o : ℕ) → o < sizes.processes
      → AnswerStays (present new (states_after words (views i) states)) o (after o)
  installs hits o lo = elim (cases_eq o i) [
    | inl e ↦ rw e (rw moved.here (in_transfer (present new (states_after words (views i) states)) i
        (met_of sizes (views i) (words (name_of (action_of sizes (views i)))))
        (exchange_announced sizes (views i) (words (name_of (action_of sizes (views i)))) hits.second hits.here)))
    | inr ne ↦ rw (moved.elsewhere o ne) (others_keep hits o lo)
  ]

  -- after the step, whether it installs a state or not, every process without an announced transfer has its reply as last answer
  pub answers_kept : (o : ℕ) → o < sizes.processes → AnswerStays (present new (states_after words (views i) states)) o (after o)
  answers_kept o lo = elim (hitting (views i) words (views i).next) [ inl hits ↦ installs hits o lo | inr not ↦ stays not o lo ]
