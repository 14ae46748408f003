-- what follows of words and views that meet the invariant, whether or not a run led to them
use Rattle.std.specs.Prelude.{◌≡◌, ℕ, ◌+◌, ◌*◌, ◌<◌, ◌≤◌, List, length}
use Rattle.word_layout.specs.Sizes.{Sizes, IsShape, blocks, limits_of}
use Rattle.process_sums.specs.Sums.{total}
use Rattle.pool_model.specs.declared.entry.Entry.{Entry}
use Rattle.pool_model.specs.History.{held, slack}
use Rattle.pool_model.specs.Legal.{IsLegal}
use Rattle.transfer_machine.specs.Words.{stack}
use Rattle.batch_invariant.specs.Batches.{ProcessViews}
use Rattle.interleaving_core.specs.Invariant.{MeetsInvariant}
use Rattle.interleaving_core.specs.Kept.{kept_by}

-- a fact of the shape, the words, the views and the history, wherever they meet the invariant
abbrev pub WhereverMet : (Sizes → List ℕ → ProcessViews → List Entry → Type 0) → Type 0
WhereverMet Fact =
    (sizes : Sizes) (words : List ℕ) (views : ProcessViews) (history : List Entry)
    → IsShape sizes
    → MeetsInvariant sizes words views history
    → Fact sizes words views history

-- the history is legal
abbrev pub HistoryIsLegal : Type 0
HistoryIsLegal = WhereverMet (λ sizes words views history. IsLegal (limits_of sizes) history)

-- all blocks but the present slack are held or in the shared stack
abbrev pub FewAreWithheld : Type 0
FewAreWithheld = WhereverMet (λ sizes words views history.
    blocks sizes ≤ length (held history) + sizes.length * length (stack sizes words) + slack (limits_of sizes) history (length history))

-- a process keeps at most five batches of blocks
abbrev pub EachKeepsFive : Type 0
EachKeepsFive = WhereverMet (λ sizes words views history.
    (i : ℕ) → i < sizes.processes → kept_by sizes words i (views i) ≤ 5 * sizes.length)

-- each block is kept by a process, held, or in the shared stack
abbrev pub AllAreCounted : Type 0
AllAreCounted = WhereverMet (λ sizes words views history.
    total sizes.processes (λ i. kept_by sizes words i (views i)) + length (held history) + sizes.length * length (stack sizes words)
    ≡ blocks sizes)
