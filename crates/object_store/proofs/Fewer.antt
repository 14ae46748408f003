-- A free leaves its pass one block fewer.
use Rattle.std.proofs.Common.{◌≡◌, ℕ, ◌+◌, ◌∙◌, List, [], ◌∷◌, ◌++◌, length, sym, ap, subst}
use Rattle.std.specs.Prelude.{Contains}
use Rattle.std.proofs.Math.Seq.{take-append_seam}
use Rattle.word_layout.specs.Sizes.{limits_of}
use Rattle.pool_model.specs.declared.entry.Entry.{Entry}
use Rattle.pool_model.specs.declared.entry.Entry.TheVariants as entry
use Rattle.pool_model.specs.Limits.{Limits}
use Rattle.pool_model.specs.History.{own, grip, grip_after}
use Rattle.pool_model.specs.Legal.{IsLegal, MayFollow}
use Rattle.pool_model.proofs.Places.{slice_get-push}
use Rattle.history_invariant.proofs.Freed.{freed_one}
use Rattle.block_pool.specs.Passing.{Passed}
use Rattle.block_pool.specs.Standing.{StandsWell}
use Rattle.block_pool.specs.Calls.{Entered}

-- the last entry of a legal history may follow those before it
last_may : (limits : Limits) (past : List Entry) (made : Entry) → IsLegal limits (past ++ made ∷ []) → MayFollow limits past made
last_may limits past made legal = subst (λ (before : List Entry). MayFollow limits before made) (take-append_seam past (made ∷ []))
    (rw (slice_get-push past made) at (legal.follows (length past)))

-- a block that the pass held was freed: it holds one block fewer
pub freed_fewer : (block : ℕ) (old new : Passed) → StandsWell old → Contains old.held block → Entered (entry.Back old.number block) old new
    → IsLegal (limits_of old.sizes) new.seen → length new.held + 1 ≡ length old.held
freed_fewer block old new stands held entered legal =
    let limits : Limits = limits_of old.sizes in
    let made : Entry = entry.Back old.number block in
    let may = last_may limits entered.seen.past made (subst (IsLegal limits) entered.seen.ends legal) in
    let same : grip (own old.seen old.number) ≡ old.held = ap grip stands.own ∙ sym stands.held in
    let holds : Contains (grip (own old.seen old.number)) block = subst (λ (bs : List ℕ). Contains bs block) (sym same) held in
    ap (λ (bs : List ℕ). length bs + 1) entered.held
    ∙ subst (λ (bs : List ℕ). length (grip_after bs made) + 1 ≡ length bs) same
    (freed_one limits old.seen old.number block stands.legal (may.0, holds))
