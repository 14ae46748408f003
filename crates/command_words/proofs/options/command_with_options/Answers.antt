use Rattle.std.proofs.Common.{◌≡◌, ◌∙◌, ℕ, ◌+◌, ◌<◌, List, [], ◌∷◌, length, take, get_or, map, ap, ap₂, sym}
use Rattle.std.specs.Prelude.{fold}
use Rattle.std.specs.Borrow.{Bor}
use Rattle.std.proofs.lemmas.List.{map-append, take_more}
use Rattle.std.proofs.lemmas.List.Sums.{fold_push}
use Rattle.clap.specs.Words.{Rule, new_app, with_rule}
use Rattle.command_words.specs.Options.{option_rule, with_options, without_help}
use Rattle.command_words.proofs.options.command_with_options.Goals as goal

-- one option more
with_options_more : (name : List ℕ) (options : List (Bor (List ℕ) × Bor (List ℕ))) (i : ℕ) (option : Bor (List ℕ) × Bor (List ℕ))
    → i < length options
    → with_options name (take (i + 1) options)
    ≡ with_rule (with_options name (take i options)) (option_rule (get_or options i option).0.now (get_or options i option).1.now)
with_options_more name options i option within =
    let rule_of : Bor (List ℕ) × Bor (List ℕ) → Rule = λ option. option_rule option.0.now option.1.now in
    ap (with_options name) (take_more options i option within)
    ∙ ap (λ rules. fold with_rule (without_help (new_app name)) rules) (map-append rule_of (take i options) (get_or options i option ∷ []))
    ∙ fold_push with_rule (without_help (new_app name)) (map rule_of (take i options)) (rule_of (get_or options i option))

pub loop-option_name-preserved : goal.loop-option_name-preserved
loop-option_name-preserved c =
    c.in_ok-command.ensures.shape c.option.ensures.local ∙ ap₂ with_rule c.loop-option_name.invariant c.option.ensures.rule
    ∙ sym (with_options_more c.args.name.now c.args.options.now c.loop-option_name.option_name-index _ c.loop-option_name-test.true)
