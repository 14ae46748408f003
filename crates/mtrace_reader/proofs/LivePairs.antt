-- What the live pairs name once an address's pair is taken out.
use Rattle.std.proofs.Common.{◌≡◌, ℕ, cond, not, eqb, None, ◌∙◌}
use Rattle.std.specs.Map.{lookup}
use Rattle.std.proofs.lemmas.Map.Entries.{lookup-filter-keys}
use Rattle.line_text.proofs.Choices.{cond_not, same_key}
use Rattle.mtrace_reader.specs.Script.{Walk, live_but, named}

-- without an address's pair, each other address names what it named, and it names nothing
pub lookup-live_but : (walk : Walk) (address q : ℕ) → lookup (eqb q) (live_but walk address) ≡ cond (eqb address q) None (named walk q)
lookup-live_but walk address q =
    lookup-filter-keys (eqb q) (λ k. not (eqb k address)) (not (eqb address q)) (same_key address q) walk.live
    ∙ cond_not (eqb address q) (named walk q) None
