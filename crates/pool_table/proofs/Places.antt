-- the same of a place that the code has worked out
use Rattle.std.proofs.Common.{◌≡◌, ℕ, sym, subst}
use Rattle.word_rule.specs.Moves.{Keeps, Learned}
use Rattle.word_layout.specs.Sizes.{Sizes}
use Rattle.word_layout.specs.Names.{place}
use Rattle.transfer_machine.specs.Words.{name_of, left_by}
use Rattle.transfer_machine.specs.declared.action.Action.{Action}
use Rattle.interleaving_core.specs.Steps.{next_action}
use Rattle.pool_table.specs.declared.about.About.{About}
use Rattle.pool_table.specs.Views.{SeatView}
use Rattle.pool_table.specs.Rule.{Holds}
use Rattle.pool_table.specs.Turns.{turning, turned}
use Rattle.pool_table.specs.Steps.{CanStep, answered, Stepped}
use Rattle.pool_table.proofs.Steps.{action_keeps, action_tells}

-- a seat's next step keeps the rule, made at the place that was worked out for the word it names
pub keeps_at : (sizes : Sizes) (a : About) (number at : ℕ) (v : SeatView) (action : Action) → at ≡ place sizes (name_of action)
    → CanStep sizes a v → action ≡ next_action sizes (turning a v.mind.view) → Keeps Holds number v at (left_by action) (turned a)
keeps_at sizes a number at v action placed can is =
    subst (λ n. Keeps Holds number v n (left_by action) (turned a)) (sym placed) (action_keeps sizes a number v action can is)

-- and tells the seat that it was made, with the word that it met there
pub tells_at : (sizes : Sizes) (a : About) (number at : ℕ) (v x : SeatView) (action : Action) (met : ℕ)
    → at ≡ place sizes (name_of action) → CanStep sizes a v → action ≡ next_action sizes (turning a v.mind.view)
    → Learned Holds (turned a) number at (left_by action) v met x → Stepped a v (answered action met) x
tells_at sizes a number at v x action met placed can is learned =
    action_tells sizes a number v x action met can is
    (subst (λ n. Learned Holds (turned a) number n (left_by action) v met x) placed learned)
