-- The bytes at addresses once one's pair is taken out.
use Rattle.std.proofs.Common.{◌≡◌, ℕ, cond, not, eqb, None, ◌∙◌}
use Rattle.std.specs.Map.{lookup}
use Rattle.std.proofs.lemmas.Map.Entries.{lookup-filter-keys}
use Rattle.line_text.proofs.Choices.{cond_not, same_key}
use Rattle.pool_fit.specs.Moves.{Walk, bytes_at, live_but}

-- without an address's pair, each other address has what it had, and it has nothing
pub lookup-live_but : (walk : Walk) (address q : ℕ) → lookup (eqb q) (live_but walk address) ≡ cond (eqb address q) None (bytes_at walk q)
lookup-live_but walk address q =
    lookup-filter-keys (eqb q) (λ k. not (eqb k address)) (not (eqb address q)) (same_key address q) walk.live
    ∙ cond_not (eqb address q) (bytes_at walk q) None
