-- the process that loads the reply of its transfer is answered with its reply in the current record
use Rattle.std.proofs.Common.{◌≡◌, ℕ, List, refl, sym, ◌∙◌, ap}
use Rattle.word_layout.specs.Sizes.{Sizes}
use Rattle.word_layout.specs.Names.{word_at}
use Rattle.word_layout.specs.Packing.{value_of, reply_of}
use Rattle.transfer_machine.specs.Machine.{action_of, met_of}
use Rattle.transfer_machine.specs.Words.{met_word}
use Rattle.transfer_machine.specs.declared.transfer.TransferView.{TransferView}
use Rattle.transfer_machine.specs.declared.stage.NextStep.TheVariants.{LoadReply}
use Rattle.helping_invariant.specs.Laws.{reply_word}
use Rattle.stack_invariant.specs.Gives.{present}
use Rattle.stack_invariant.proofs.Content.{words_show}
use Rattle.stack_invariant.proofs.Follows.{replies_answer}
use Rattle.interleaving_core.specs.StepLaws.{word_met, AnswersAreReplies}
use Rattle.interleaving_core.specs.Steps.{is_alone}
use Rattle.interleaving_core.proofs.CallLawsKept.{value_said}
use Rattle.interleaving_core.proofs.Joins.{transfers}
use Rattle.interleaving_core.proofs.RunContent.{moves_action, moves_met}

-- the answer of a view that loads its reply
answer_loaded : (sizes : Sizes) (words : List ℕ) (v : TransferView) → v.next ≡ LoadReply
    → (met_of sizes v (met_word sizes words (action_of sizes v))).answer ≡ reply_of (value_of (reply_word sizes (word_at sizes words) v))
answer_loaded sizes words v e = rw e refl

-- a transfer is answered by the reply of the state that applied it
pub answers_are_replies : AnswersAreReplies
answers_are_replies sizes words views history i due moves e =
    let (ghosts, h) = due.table.meets in
    let v = views i in
    let named = word_at sizes words in
    let alone = is_alone v.calls.way in
    let action = moves_action sizes v alone v.calls.stage refl refl moves in
    let met = moves_met sizes v (word_met sizes words v) alone v.calls.stage refl refl moves in
    let loaded = (replies_answer sizes named (transfers views) ghosts.states i due.table.low h.stack e).reply in
    let shown = value_said sizes words (present named ghosts.states) i
    (words_show sizes named (transfers views) ghosts.states h.stack) due.table.low in
    ap (λ t. t.answer) met ∙ ap (λ a. (met_of sizes v.transfer (met_word sizes words a)).answer) action
    ∙ answer_loaded sizes words v.transfer e ∙ ap reply_of (loaded ∙ sym shown)
