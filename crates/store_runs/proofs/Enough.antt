-- With enough blocks no put is refused.
use Rattle.std.proofs.Common.{◌≡◌, ℕ, ◌+◌, List, length, take, sym, ap, ◌∙◌, subst, arith, Some}
use Rattle.std.specs.Prelude.{slice_get}
use Rattle.pool_model.specs.declared.entry.Entry.{Entry}
use Rattle.pool_model.specs.History.{own}
use Rattle.pool_model.proofs.Places.{slice_get_as_long}
use Rattle.enough_blocks.specs.Enough.{HoldsAtMost, NoneIsDry}
use Rattle.enough_blocks.proofs.Enough.{nothing_is_refused}
use Rattle.enough_blocks.proofs.Lists.{at-le-greatest, same_as_mapped}
use Rattle.enough_blocks.proofs.Refusals.{none_of_own}
use Rattle.store_script.specs.declared.command.StoreScript.{StoreScript}
use Rattle.store_script.specs.declared.answered.Answered.{Answered}
use Rattle.store_script.specs.Fit.{IsAnswered}
use Rattle.store_script.specs.Replies.{Walk, answers_to, begun}
use Rattle.store_runs.specs.Enough.{EnoughBlocksRefuseNoPut, no_refusals, peak_without_refusals, present_after}
use Rattle.store_runs.proofs.Present.{none_at_first}
use Rattle.store_runs.proofs.Unrefused.{counts_keys, walks_alike}

-- while none of its entries is a refusal, a process holds no more blocks than keys of its script are present at most
holds-at-most-peak : (k : ℕ) (script : StoreScript) (entries : List Entry) (answers : List Answered) → IsAnswered k script entries answers
    → HoldsAtMost (peak_without_refusals script) entries
holds-at-most-peak k script entries answers one first rest parts none =
    let counted = counts_keys k one.refused one.fits.blocks begun script.commands first rest none_at_first none
    (parts ∙ one.fits.call_by_call) in
    let present : ℕ → ℕ = λ count. present_after (take count script.commands) in
    omega (arith, counted.counted, at-le-greatest present (length script.commands + 1) counted.count (omega (arith, counted.within)))

-- where none of its entries is a refusal, its answers are those without refusals
answers_are : (k : ℕ) (script : StoreScript) (entries : List Entry) (answers : List Answered) → IsAnswered k script entries answers
    → NoneIsDry entries → answers ≡ answers_to no_refusals script.commands
answers_are k script entries answers one none =
    let calls = subst NoneIsDry one.fits.call_by_call none in
    one.answered ∙ ap (λ (walk : Walk). walk.answers) (walks_alike k one.refused one.fits.blocks begun script.commands none_at_first calls)

pub enough_blocks : EnoughBlocksRefuseNoPut
enough_blocks limits history scripts lists legal each answered enough =
    let few : (k : ℕ) (script : StoreScript) → slice_get scripts k ≡ Some script
    → HoldsAtMost (peak_without_refusals script) (own history k)
    = λ k script at.
    let answers = slice_get_as_long lists scripts k script (sym answered.one_each) at in
    holds-at-most-peak k script (own history k) answers.0 (answered.each k script answers.0 at answers.1) in
    let none = nothing_is_refused peak_without_refusals limits history scripts legal each few enough in
    same_as_mapped (λ script. answers_to no_refusals script.commands) scripts lists answered.one_each
    (λ k script answers at found.
    answers_are k script (own history k) answers (answered.each k script answers at found) (none_of_own history k none))
