-- transfers end within their bound
use Rattle.std.proofs.Common.{◌≡◌, ℕ, ◌+◌, ◌≤◌, false, List, [], ◌∷◌, ◌++◌, ap, arith}
use Rattle.word_layout.specs.Sizes.{Sizes, transfer_bound}
use Rattle.pool_model.specs.declared.entry.Entry.{Entry}
use Rattle.interleaving_core.specs.Moves.{CoreState}
use Rattle.interleaving_core.specs.Runs.{IsRun, Turn, after_turn, turns}
use Rattle.interleaving_core.specs.TransferLaws.{rests, steps_made, is_step_of, steps_of, NeverRests, TransfersEnd, WholeTransfersEnd}
use Rattle.interleaving_core.proofs.Runs.{run_fits}
use Rattle.interleaving_core.proofs.RunTurns.{run_sizes}
use Rattle.interleaving_core.proofs.RunCounts.{bounded, turn_counts}

-- while a transfer goes on, each step leaves one less
never_now : (process : ℕ) (more : List Turn) (s : CoreState) → NeverRests process more s → rests s process ≡ false
unfolding NeverRests
never_now process [] s h = h
never_now process (turn ∷ more) s h = h.0

-- where the steps from the end of a turn on are within the bound, so are those from its beginning on
turn_within : (sizes : Sizes) (past more : List Turn) (history : List Entry) (s : CoreState) (turn : Turn) (process : ℕ)
    → IsRun sizes past history s
    → NeverRests process more (after_turn turn s)
    → steps_made (after_turn turn s) process + steps_of process more (after_turn turn s) + 1 ≤ transfer_bound sizes
    → steps_made s process + steps_of process (turn ∷ more) s + 1 ≤ transfer_bound sizes
unfolding steps_of
turn_within sizes past more history s turn process run never rest =
    let counts = turn_counts process turn s history (run_fits sizes past history s run) (never_now process more (after_turn turn s) never)
    in
    one_less (steps_made s process) (is_step_of process turn s) (steps_of process more (after_turn turn s))
    (steps_made (after_turn turn s) process) (transfer_bound sizes) counts rest
  where
    one_less : (a b c d bound : ℕ) → d ≡ a + b → d + c + 1 ≤ bound → a + (b + c) + 1 ≤ bound
    one_less a b c d bound e h = omega arith

-- a transfer ends within its bound of its owner's turns
pub transfers_end : TransfersEnd
unfolding steps_of NeverRests
transfers_end sizes past [] history s process run low never =
    let same = run_sizes sizes past history s run in
    let left = (bounded s history process (run_fits sizes past history s run) (rw same low)).left never in
    none_more (steps_made s process) (transfer_bound s.sizes) (transfer_bound sizes) (ap transfer_bound same) left
  where
    none_more : (a b c : ℕ) → b ≡ c → a + 1 ≤ b → a + 0 + 1 ≤ c
    none_more a b c e h = omega arith
transfers_end sizes past (turn ∷ more) history s process run low (busy, never) =
    turn_within sizes past more history s turn process run never
    (transfers_end sizes (past ++ turn ∷ []) more _ (after_turn turn s) process (turns past history s turn run) low never)

-- so does one from its beginning on
pub whole_transfers_end : WholeTransfersEnd
whole_transfers_end sizes past more history s turn process run low rest never =
    let within = turn_within sizes past more history s turn process run never
    (transfers_end sizes (past ++ turn ∷ []) more _ (after_turn turn s) process (turns past history s turn run) low never) in
    later_steps (steps_made s process) (steps_of process (turn ∷ more) s) (transfer_bound sizes) within
  where
    later_steps : (a b bound : ℕ) → a + b + 1 ≤ bound → b + 1 ≤ bound
    later_steps a b bound h = omega arith
