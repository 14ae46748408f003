-- what a step and the end of a transfer make of the pool
use Rattle.std.proofs.Common.{◌≡◌, ℕ, true, false, arith, [], ◌∷◌, length-append}
use Rattle.std.proofs.lemmas.Bool.Decides.{nat_tests}
use Rattle.word_layout.specs.Sizes.{Sizes}
use Rattle.word_layout.specs.declared.announced.Wish.{Wish}
use Rattle.word_layout.specs.declared.announced.Wish.TheVariants.{Take, Give}
use Rattle.word_layout.specs.declared.reply.Reply.{Reply}
use Rattle.word_layout.specs.declared.reply.Reply.TheVariants.{Nothing, Took, Gave}
use Rattle.transfer_schedule.proofs.Operations.{one_more_few}
use Rattle.pool_machine.specs.Pools.{pending_of, step_counted, pool_ended}
use Rattle.transfer_machine.specs.declared.transfer.TransferView.{TransferView}
use Rattle.pool_machine.specs.declared.view.PoolView.{PoolView}
use Rattle.pool_machine.specs.declared.view.ProcessView.{ProcessView}
use Rattle.transfer_invariant.specs.Progress.{is_moving, has_only_begun}
use Rattle.pool_invariant.specs.Kept.{PoolKept, SparesKept, KeptAlone, Answers}

-- a step that doesn't end the transfer
pub step_kept : (sizes : Sizes) (v : ProcessView) (x : TransferView) (giving : ℕ) → PoolKept sizes v
    → is_moving v.transfer.next ≡ true → is_moving x.next ≡ true → has_only_begun x.next ≡ false → x.wish ≡ v.transfer.wish → giving ≡ 0
    → PoolKept sizes (record v { transfer = x; pool = record (step_counted v.pool) { giving = giving } })
step_kept sizes v x giving h moving after announced wish none = grind arith

-- a step that doesn't end the transfer keeps what holds of the spares
pub step_spares : (pool : PoolView) (giving : ℕ) → SparesKept pool → SparesKept (record (step_counted pool) { giving = giving })
step_spares pool giving h = record { heads = h.heads; idle = h.idle; taking = h.taking; giving = h.giving }

-- and what holds of a process that makes transfers alone
pub step_alone : (sizes : Sizes) (process : ℕ) (pool : PoolView) (giving : ℕ) → KeptAlone sizes process pool
    → KeptAlone sizes process (record (step_counted pool) { giving = giving })
step_alone sizes process pool giving h = record { full = h.full; first = h.first; resting = h.resting; busy = h.busy }

-- the end of the transfer
pub end_kept : (sizes : Sizes) (v : ProcessView) (x : TransferView) (reply : Reply) → PoolKept sizes v
    → has_only_begun v.transfer.next ≡ false → is_moving x.next ≡ false → has_only_begun x.next ≡ false
    → PoolKept sizes (record v { transfer = x; pool = pool_ended reply (step_counted v.pool) })
end_kept sizes v x Nothing h before after settled = grind (arith, nat_tests)
end_kept sizes v x (Took head) h before after settled = grind (arith, nat_tests)
end_kept sizes v x Gave h before after settled = grind (arith, nat_tests)

-- the end of the transfer keeps what holds of the spares: a taken batch is one more
pub end_spares : (pool : PoolView) (wish : Wish) (reply : Reply) → Answers wish reply → pool.plan.pending ≡ pending_of wish
    → SparesKept pool
    → SparesKept (pool_ended reply (step_counted pool))
end_spares pool Take Nothing a e h = grind (arith, nat_tests)
end_spares pool Take (Took head) a e h = grind (arith, nat_tests, one_more_few pool.plan.spares, length-append pool.heads (head ∷ []))
end_spares pool Take Gave a e h = absurd a
end_spares pool (Give head) Nothing a e h = absurd a
end_spares pool (Give head) (Took batch) a e h = absurd a
end_spares pool (Give head) Gave a e h = grind (arith, nat_tests)

-- and what holds of a process that makes transfers alone
pub end_alone : (sizes : Sizes) (process : ℕ) (pool : PoolView) (wish : Wish) (reply : Reply) → pool.plan.pending ≡ pending_of wish
    → KeptAlone sizes process pool
    → KeptAlone sizes process (pool_ended reply (step_counted pool))
end_alone sizes process pool Take Nothing e h = grind (arith, nat_tests)
end_alone sizes process pool Take (Took head) e h = grind (arith, nat_tests, one_more_few pool.plan.spares)
end_alone sizes process pool Take Gave e h = grind (arith, nat_tests, one_more_few pool.plan.spares)
end_alone sizes process pool (Give head) Nothing e h = grind (arith, nat_tests)
end_alone sizes process pool (Give head) (Took batch) e h = grind (arith, nat_tests)
end_alone sizes process pool (Give head) Gave e h = grind (arith, nat_tests)
