-- a take that an exchange of the state answers with nothing: few blocks are unheld then
use Rattle.std.proofs.Common.{◌≡◌, ℕ, ◌+◌, ◌*◌, ◌<◌, ◌≤◌, true, List, length}
use Rattle.std.proofs.Common.{arith}
use Rattle.word_layout.specs.Sizes.{Sizes, IsShape, blocks, transfer_bound, limits_of, most_blocks}
use Rattle.word_layout.specs.Packing.{reply_of}
use Rattle.word_layout.specs.declared.reply.Reply.TheVariants.{Nothing}
use Rattle.process_sums.proofs.Sums.{total_le}
use Rattle.pool_model.specs.declared.entry.Entry.{Entry}
use Rattle.pool_model.specs.History.{held, HasFewUnheld}
use Rattle.transfer_schedule.specs.Numbers.{withheld}
use Rattle.transfer_machine.specs.States.{next_of}
use Rattle.transfer_machine.specs.Tries.{is_pending}
use Rattle.transfer_invariant.specs.Memory.{Words, state_tag}
use Rattle.batch_invariant.specs.Batches.{ProcessViews}
use Rattle.batch_invariant.specs.Premises.{PendingIsPresent}
use Rattle.chain_invariant.specs.Chains.{ChainsHold}
use Rattle.chain_invariant.specs.Laws.{kept_blocks}
use Rattle.chain_invariant.proofs.Counts.{blocks_counted, content_low}
use Rattle.chain_invariant.proofs.Moves.{next_chains}
use Rattle.history_invariant.proofs.Holding.{held_shared}
use Rattle.call_invariant.proofs.Uses.{empty_stack_leaves_few}
use Rattle.chain_invariant.proofs.Gives.{some_long}
use Rattle.stack_invariant.proofs.Emptied.{found_empty}
use Rattle.interleaving_core.specs.Invariant.{Ghosts, Holds, held_in}
use Rattle.interleaving_core.proofs.Joins.{withholds_few_at, keeps}
use Rattle.interleaving_core.proofs.Withheld.{withholds}

-- at such an exchange at most the slack is unheld
pub few_at : (sizes : Sizes) (words : Words) (views : ProcessViews) (history : List Entry) (ghosts : Ghosts) (announcements : ℕ → ℕ) (o : ℕ)
    → IsShape sizes → o < sizes.processes → Holds sizes words views history ghosts
    → ((k : ℕ) → k < sizes.processes → PendingIsPresent (ghosts.states (state_tag words)) (announcements k) k (views k).transfer)
    → is_pending (announcements o) ((ghosts.states (state_tag words)).reply o) ≡ true
    → reply_of ((next_of sizes.processes announcements (ghosts.states (state_tag words))).reply o) ≡ Nothing
    → HasFewUnheld (limits_of sizes) history (length history)
few_at sizes words views history ghosts announcements o shape lo h present pending says =
    let s = ghosts.states (state_tag words) in
    let t = next_of o announcements s in
    let mine = held_in ghosts.ledgers in
    let chains = h.chains in
    let at : (k : ℕ) → k ≤ sizes.processes → ChainsHold sizes words (next_of k announcements s) views chains.batch_blocks
    chains.current_blocks mine =
    λ k le. next_chains sizes words s views chains.batch_blocks chains.current_blocks mine announcements k shape le chains.hold present in
    let fits : (k : ℕ) → k ≤ sizes.processes → (place : ℕ) → place < (next_of k announcements s).height
    → (next_of k announcements s).content place < most_blocks =
    λ k le place lt. low (content_low sizes words (next_of k announcements s) views chains.batch_blocks chains.current_blocks mine (at k le)
    place (some_long sizes shape) lt) shape.few_blocks in
    let found = found_empty announcements s sizes.processes o lo fits pending says in
    let counted = blocks_counted sizes words t views chains.batch_blocks chains.current_blocks mine (at o (omega arith)) in
    let most = total_le sizes.processes (λ i. kept_blocks sizes t i (views i)) (λ i. withheld (views i).pool.plan)
    (λ i li. withholds sizes t i (views i) (keeps sizes words views history ghosts i shape li h)) in
    let shared = held_shared (limits_of sizes) (transfer_bound sizes) sizes.quantum history ghosts.ledgers h.entries in
    empty_stack_leaves_few (limits_of sizes) history views (λ i li. withholds_few_at sizes words views history ghosts i shape li h)
    (enough (blocks sizes) _ _ _ (sizes.length * t.height) (length (held history)) counted (rw found.empty (omega arith)) most
    shared.grips.count)
  where
    low : {a b : ℕ} → a < b → b ≤ most_blocks → a < most_blocks
    low lt le = omega (arith, lt, le)

    enough : (all kept held_blocks withheld_blocks stack_blocks held_length : ℕ) → kept + held_blocks + stack_blocks ≡ all
        → stack_blocks ≡ 0 → kept ≤ withheld_blocks → held_length ≡ held_blocks → all ≤ held_length + withheld_blocks
    enough all kept held_blocks withheld_blocks stack_blocks held_length counted none most count = omega (arith, counted, none, most, count)
