-- what holds of all views, once the view of one process is another
use Rattle.std.proofs.Common.{◌≢◌, ℕ, ◌<◌, inl, inr}
use Rattle.std.proofs.lemmas.Bool.{cases_eq}
use Rattle.transfer_machine.specs.declared.transfer.TransferView.{TransferView}
use Rattle.transfer_invariant.specs.Memory.{Views, Moved}

-- a fact of each process
pub all_after : (P : ℕ → TransferView → Type 0) (processes : ℕ) (views after : Views) (i : ℕ) (x : TransferView) → Moved i x views after
    → P i x → ((o : ℕ) → o < processes → o ≢ i → P o (views o)) → (o : ℕ) → o < processes → P o (after o)
all_after P processes views after i x moved here others o lo = elim (cases_eq o i) [
  | inl e ↦ rw e (rw moved.here here)
  | inr ne ↦ rw (moved.elsewhere o ne) (others o lo ne)
]

-- a fact of two processes: of it alone, of it and another, and of two others
pub all_pairs_after : (P : ℕ → ℕ → TransferView → TransferView → Type 0) (processes : ℕ) (views after : Views) (i : ℕ) (x : TransferView)
    → Moved i x views after → P i i x x → ((o : ℕ) → o < processes → o ≢ i → P i o x (views o))
    → ((a : ℕ) → a < processes → a ≢ i → P a i (views a) x)
    → ((a o : ℕ) → a < processes → o < processes → a ≢ i → o ≢ i → P a o (views a) (views o))
    → (a o : ℕ) → a < processes → o < processes → P a o (after a) (after o)
all_pairs_after P processes views after i x moved self from into rest a o la lo = elim (cases_eq a i) [
  | inl e ↦ elim (cases_eq o i) [
    | inl f ↦ rw e (rw f (rw moved.here self))
    | inr nf ↦ rw e (rw moved.here (rw (moved.elsewhere o nf) (from o lo nf)))
  ]
  | inr ne ↦ elim (cases_eq o i) [
    | inl f ↦ rw f (rw moved.here (rw (moved.elsewhere a ne) (into a la ne)))
    | inr nf ↦ rw (moved.elsewhere a ne, moved.elsewhere o nf) (rest a o la lo ne nf)
  ]
]
