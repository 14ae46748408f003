-- A block that a pass got was free.
use Rattle.std.proofs.Common.{◌≡◌, ℕ, ◌∙◌, List, [], ◌∷◌, ◌++◌, length, refl, sym, ap, subst, arith}
use Rattle.std.specs.Prelude.{Contains}
use Rattle.std.proofs.Math.Seq.{take-append_seam}
use Rattle.std.proofs.lemmas.List.{same_from_push}
use Rattle.word_layout.specs.Sizes.{Sizes, limits_of}
use Rattle.word_table.specs.Seats.{SameSeat}
use Rattle.pool_model.specs.declared.entry.Entry.{Entry}
use Rattle.pool_model.specs.declared.entry.Entry.TheVariants as entry
use Rattle.pool_model.specs.Limits.{Limits}
use Rattle.pool_model.specs.History.{own, grip, held}
use Rattle.pool_model.specs.Legal.{EachEntry, IsLegal, MayFollow}
use Rattle.pool_model.proofs.Histories.{legal_take, own_more, grip_more}
use Rattle.pool_model.proofs.Places.{slice_get-push}
use Rattle.history_invariant.proofs.Grips.{grip_all}
use Rattle.history_invariant.proofs.Shared.{grips_of, legal_shared}
use Rattle.history_invariant.proofs.Times.{times_contained, times_none}
use Rattle.pool_machine.specs.declared.call.Call.{Call}
use Rattle.pool_table.specs.Minds.{number_of}
use Rattle.block_pool.specs.declared.pool.Answer.TheVariants as answer
use Rattle.block_pool.specs.declared.process.Process.{Process}
use Rattle.block_pool.specs.Passing.{Passed, BetweenCalls, pass_of}
use Rattle.block_pool.specs.Standing.{StandsWell}
use Rattle.block_pool.specs.Calls.{SamePass, Entered, WasFree, CallMade}
use Rattle.block_pool.proofs.Standing.{stands}
use Rattle.block_pool.proofs.Passing.{same_pass, entered_so}

-- the last entry of a history meets its fact
last_meets : (Fact : List Entry → Entry → Type 0) (past : List Entry) (made : Entry) → EachEntry Fact (past ++ made ∷ []) → Fact past made
last_meets Fact past made each = subst (λ (before : List Entry). Fact before made) (take-append_seam past (made ∷ []))
    (rw (slice_get-push past made) at (each (length past)))

-- a got block may be got: it is one of the pool, and nobody holds it
got_may : (limits : Limits) (past : List Entry) (i block : ℕ) → IsLegal limits (past ++ entry.Got i block ∷ [])
    → MayFollow limits past (entry.Got i block)
got_may limits past i block legal = last_meets (MayFollow limits) past (entry.Got i block) legal.follows

-- its process wasn't holding it
got_not_own : (limits : Limits) (past : List Entry) (i block : ℕ) → IsLegal limits (past ++ entry.Got i block ∷ [])
    → ¬ Contains (grip (own past i)) block
got_not_own limits past i block legal mine =
    let may = got_may limits past i block legal in
    let before : IsLegal limits past = subst (IsLegal limits) (take-append_seam past (entry.Got i block ∷ []))
    (legal_take limits (past ++ entry.Got i block ∷ []) (length past) legal) in
    omega (
      arith,
      times_contained block (grip (own past i)) mine,
      times_none block (held past) may.2,
      grip_all limits i block (held past) (grips_of past) may.0 (legal_shared limits past before).grips,
    )

-- its own entries before it are those of what it had seen
own_before : (by block : ℕ) (past seen before after : List Entry) → seen ≡ past ++ entry.Got by block ∷ []
    → own seen by ≡ after → after ≡ before ++ entry.Got by block ∷ [] → own past by ≡ before
own_before by block past seen before after ends mine grew =
    let got = entry.Got by block in
    let longer : own past by ++ got ∷ [] ≡ before ++ got ∷ [] =
    sym (own_more past got by refl) ∙ ap (λ es. own es by) (sym ends) ∙ mine ∙ grew in
    (same_from_push (own past by) before got got longer).0

-- a block put before others says which these are
same_tail : (b : ℕ) (xs ys : List ℕ) → b ∷ xs ≡ b ∷ ys → xs ≡ ys
same_tail b xs ys e = cc

-- what the pass held before
held_before : (old new : Passed) (block : ℕ) → StandsWell new → Entered (entry.Got old.number block) old new → old.held ≡ grip old.own
held_before old new block well entered = same_tail block old.held (grip old.own)
    (sym entered.held ∙ well.held ∙ ap grip entered.own ∙ grip_more old.own (entry.Got old.number block))

was_free : (old new : Passed) (block : ℕ) → SamePass old new → StandsWell new → Entered (entry.Got old.number block) old new
    → WasFree block old new
was_free old new block same well entered =
    let i = old.number in
    let past = entered.seen.past in
    let limits = limits_of old.sizes in
    let legal : IsLegal limits new.seen = subst (λ (s : Sizes). IsLegal (limits_of s) new.seen) same.sizes well.legal in
    let whole = λ (before : List Entry) (ends : new.seen ≡ before ++ entry.Got i block ∷ []). subst (IsLegal limits) ends legal in
    let mine = subst (λ (by : ℕ). own new.seen by ≡ new.own) same.number well.own in
    let before = own_before i block past new.seen old.own new.own entered.seen.ends mine entered.own in
    let grips : grip (own past i) ≡ old.held = ap grip before ∙ sym (held_before old new block well entered) in
    let may = got_may limits past i block (whole past entered.seen.ends) in
    record {
      within = may.1;
      not_own = λ there. got_not_own limits past i block (whole past entered.seen.ends)
          (subst (λ (bs : List ℕ). Contains bs block) (sym grips) there);
      nobodys = λ other ends. (got_may limits other i block (whole other ends)).2;
    }

-- an allocate or a search that got it
pub free_so : (sizes : Sizes) (call : Call) (number n : ℕ) (x y : Process) → SameSeat x.seat y.seat → BetweenCalls sizes y
    → CallMade call (entry.Got (number_of x.seat.view.mind) number ∷ []) n x.seat.view y.seat.view
    → (block : ℕ) → answer.Got number ≡ answer.Got block → WasFree block (pass_of x.seat) (pass_of y.seat)
free_so sizes call number n x y same g made block is =
    let here : number ≡ block = cc in
    subst (λ b. WasFree b (pass_of x.seat) (pass_of y.seat)) here
    (was_free (pass_of x.seat) (pass_of y.seat) number
    (same_pass call (entry.Got (number_of x.seat.view.mind) number ∷ []) n x.seat y.seat same made) (stands sizes y g)
    (entered_so call (entry.Got (number_of x.seat.view.mind) number) n x.seat y.seat made))
