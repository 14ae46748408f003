-- a step of a transfer keeps the spares of its process but for a batch that it took, and after the last one the process is at rest
use Rattle.std.proofs.Common.{◌≡◌, ◌≢◌, ℕ, Bool, true, false, refl, sym, ap, ◌∙◌, arith}
use Rattle.std.specs.Prelude.{if◌then◌else◌, ◌&&◌}
use Rattle.std.proofs.lemmas.Bool.{false≢true}
use Rattle.word_layout.specs.Sizes.{Sizes}
use Rattle.word_layout.specs.Packing.{value_of, reply_of}
use Rattle.word_layout.specs.declared.announced.Wish.{Wish}
use Rattle.word_layout.specs.declared.reply.Reply.{Reply}
use Rattle.word_layout.specs.declared.reply.Reply.TheVariants as replied
use Rattle.transfer_machine.specs.Machine.{met_of, met_at}
use Rattle.transfer_machine.specs.Stages.{is_rest}
use Rattle.transfer_machine.specs.declared.stage.NextStep.{NextStep}
use Rattle.transfer_machine.specs.declared.stage.NextStep.TheVariants.{Rest, Announce, Try, LoadFinalState, LoadReply}
use Rattle.transfer_machine.specs.declared.transfer.TransferView.{TransferView}
use Rattle.pool_machine.specs.Beginning.{alone_begun}
use Rattle.pool_machine.specs.Conditions.{may_use_transfers}
use Rattle.pool_machine.specs.Pools.{pool_ended, pool_met_at, step_counted}
use Rattle.pool_machine.specs.declared.call.CallStage.{CallStage}
use Rattle.pool_machine.specs.declared.call.CallStage.TheVariants.{Between, Choosing, Moving, Own}
use Rattle.pool_machine.specs.declared.view.PoolView.{PoolView}
use Rattle.pool_machine.specs.declared.view.ProcessView.{ProcessView}
use Rattle.interleaving_core.specs.Steps.{is_alone, next_met}
use Rattle.interleaving_core.specs.TransferLaws.{moves_transfer}
use Rattle.pool_table.specs.declared.about.About.{About}
use Rattle.pool_table.specs.declared.about.About.TheVariants as about
use Rattle.pool_table.specs.Turns.{turning}
use Rattle.pool_table.specs.Views.{SeatView}
use Rattle.pool_table.specs.Steps.{CanStep, Stepped}
use Rattle.pool_table.specs.Transfers.{Agrees}
use Rattle.pool_table.proofs.Transfers.{transfer_steps}
use Rattle.batch_stack.specs.declared.progress.Progress.{Progress}
use Rattle.batch_stack.specs.declared.progress.Progress.TheVariants.{Going}
use Rattle.batch_stack.specs.Alone.{EndsAtRest, spares_in, spares_about, spares_after}
use Rattle.batch_stack.specs.Running.{ended_as, progress_at}
use Rattle.batch_stack.proofs.Ended.{pool_becomes, ends_at}

-- the spares after a step at that stage, by the answer
spares_ended : (r : Reply) (pool : PoolView) → (pool_ended r pool).heads ≡ spares_after (ended_as r) pool.heads
spares_ended replied.Nothing pool = refl
spares_ended (replied.Took head) pool = refl
spares_ended replied.Gave pool = refl

spares_met : (sizes : Sizes) (t : TransferView) (word : ℕ) (pool : PoolView) (s : NextStep)
    → (pool_met_at word pool s).heads ≡ spares_after (progress_at s (met_at sizes t word s).answer) pool.heads
spares_met sizes t word pool Rest = refl
spares_met sizes t word pool Announce = refl
spares_met sizes t word pool (Try second step) = refl
spares_met sizes t word pool LoadFinalState = refl
spares_met sizes t word pool LoadReply = spares_ended (reply_of (value_of word)) (step_counted pool)

-- a step leaves the spares that its answer says
pub spares_step : (sizes : Sizes) (a : About) (v x : SeatView) (t u : TransferView) (word : ℕ) (answer : Progress) → CanStep sizes a v
    → Agrees a v t → Stepped a v word x → u ≡ met_of sizes t word → answer ≡ progress_at t.next u.answer
    → spares_in x ≡ spares_after answer (spares_about a v)
spares_step sizes a v x t u word answer c agrees s part answered =
    let w = turning a v.mind.view in
    let told : answer ≡ progress_at t.next (met_of sizes t word).answer = answered
    ∙ ap (λ (z : TransferView). progress_at t.next z.answer) part in
    ap (λ (z : ProcessView). z.pool.heads) s.view
    ∙ (ap (λ (pool : PoolView). pool.heads) (pool_becomes v.sizes w word (is_alone w.calls.way) w.calls.stage refl refl agrees.moves)
    ∙ (ap (λ (z : TransferView). (pool_met_at word w.pool z.next).heads) agrees.same
    ∙ (spares_met sizes t word w.pool t.next ∙ ap (λ k. spares_after k w.pool.heads) (sym told))))

-- the way in which a process uses its pool stays
way_becomes : (sizes : Sizes) (w : ProcessView) (word : ℕ) (t : Bool) (stage : CallStage) → is_alone w.calls.way ≡ t
    → w.calls.stage ≡ stage → moves_transfer w ≡ true → (next_met sizes w word).calls.way ≡ w.calls.way
way_becomes sizes w word true stage alone here moves = rw alone refl
way_becomes sizes w word false Between alone here moves = absurd (false≢true (rw (alone, here) at moves))
way_becomes sizes w word false Choosing alone here moves = absurd (false≢true (rw (alone, here) at moves))
way_becomes sizes w word false Moving alone here moves = rw (alone, here) refl
way_becomes sizes w word false Own alone here moves = absurd (false≢true (rw (alone, here) at moves))

both_first : (a b : Bool) → a && b ≡ true → a ≡ true
both_first true b e = refl
both_first false b e = grind arith

begun_way : (rest : Bool) (wish : Wish) (v : ProcessView) → may_use_transfers v.calls.way ≡ true
    → may_use_transfers (if rest then alone_begun wish v else v).calls.way ≡ true
begun_way true wish v may = refl
begun_way false wish v may = may

-- after the last step
last_rests : (sizes : Sizes) (t u : TransferView) (word : ℕ) (answer : Progress) → u ≡ met_of sizes t word
    → answer ≡ progress_at t.next u.answer → answer ≢ Going → u.next ≡ Rest
last_rests sizes t u word answer part answered ends =
    ap (λ (z : TransferView). z.next) (part ∙ ap (met_at sizes t word) (ends_at t.next u.answer answer ends answered))

-- a step that is answered leaves its process at rest
pub ends_at_rest : (sizes : Sizes) (a : About) (v x : SeatView) (t u : TransferView) (word : ℕ) (answer : Progress) → CanStep sizes a v
    → Agrees a v t → Stepped a v word x → u ≡ met_of sizes t word → answer ≡ progress_at t.next u.answer → answer ≢ Going
    → EndsAtRest sizes a x u
ends_at_rest sizes (about.Alone wish) v x t u word answer c agrees s part answered ends =
    let w = turning (about.Alone wish) v.mind.view in
    let kept = way_becomes v.sizes w word (is_alone w.calls.way) w.calls.stage refl refl agrees.moves in
    let may = begun_way (is_rest v.mind.view.transfer.next) wish v.mind.view
    (both_first (may_use_transfers v.mind.view.calls.way) _ c.may) in
    record {
      of_process = ap (λ (z : SeatView). z.of_process) s.stays ∙ c.of_process;
      shape = ap (λ (z : SeatView). z.sizes) s.stays ∙ c.shape;
      way = ap (λ (z : ProcessView). may_use_transfers z.calls.way) s.view ∙ (ap may_use_transfers kept ∙ may);
      same = transfer_steps sizes (about.Alone wish) v x t u word c agrees s part;
      rest = last_rests sizes t u word answer part answered ends;
      among = s.among;
    }
ends_at_rest sizes (about.InCall call) v x t u word answer c agrees s part answered ends =
    last_rests sizes t u word answer part answered ends
