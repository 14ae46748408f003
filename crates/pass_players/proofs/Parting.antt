-- Players that have played, and what is left of them.
use Rattle.std.proofs.Common.{◌≡◌, ℕ, ◌<◌, Option, Some, None, List, ◌∷◌, ◌++◌, length}
use Rattle.std.proofs.Common.{◌≤◌, zero, suc, [], map, get_or, take, refl, sym, ap, ◌∙◌, subst, arith, length-append}
use Rattle.std.specs.Prelude.{option_map, slice_get}
use Rattle.std.proofs.lemmas.List.{length-map, take-append-le, take_all}
use Rattle.std.proofs.lemmas.Option.{same_Some, none-some, slice_get-map, slice_get-get_or, slice_get_within, get_or_from_slice_get}
use Rattle.word_layout.specs.Sizes.{Sizes}
use Rattle.pool_model.proofs.Places.{slice_get-append}
use Rattle.block_pool.specs.Passing.{Passed, Pooled}
use Rattle.pass_players.specs.declared.players.GatedPlayer.{GatedPlayer}
use Rattle.pass_players.specs.declared.players.PassPlayer.{PassPlayer}
use Rattle.pass_players.specs.Gathered.{AreReady, CanPlay, HavePlayed}
use Rattle.pass_players.specs.Moments.{Moment}
use Rattle.pass_players.specs.Playing.{Course, MayPlay, PlayedOnce}
use Rattle.pass_players.specs.Settled.{OthersUntold}
use Rattle.pass_players.specs.Together.{PlayedTogether}

-- the item behind what a list of mapped items has at a place
mapped_at : {A B : Type 0} (f : A → B) (xs : List A) (k : ℕ) (y : B) → slice_get (map f xs) k ≡ Some y
    → (x : A) × (slice_get xs k ≡ Some x) × (f x ≡ y)
mapped_at {A} {B} f xs k y at = go (slice_get xs k) refl
  where
    go : (o : Option A) → slice_get xs k ≡ o → (x : A) × (slice_get xs k ≡ Some x) × (f x ≡ y)
    go None none = absurd (none-some y (sym (ap (option_map f) none) ∙ sym (slice_get-map f xs k) ∙ at))
    go (Some x) some = (x, some, same_Some (f x) y (sym (ap (option_map f) some) ∙ sym (slice_get-map f xs k) ∙ at))

-- what is mapped twice is mapped once
pub map_map : {A B C : Type 0} (f : B → C) (g : A → B) (xs : List A) → map f (map g xs) ≡ map (λ x. f (g x)) xs
map_map f g [] = refl
map_map f g (x ∷ xs) = ap (λ rest. f (g x) ∷ rest) (map_map f g xs)

-- players that are ready can play where their passes may
pub can_play_all : {S P G : Type 0} (suits : Sizes → S → Type 0) (most_calls : S → ℕ) (is_ready : S → P → Type 0) (pool : Pooled)
    (scripts : List S) (players : List (PassPlayer P)) (gated : List (GatedPlayer P G)) → map (λ one. one.one) gated ≡ players
    → AreReady is_ready scripts players
    → ((k : ℕ) (pass : Passed) (script : S) → slice_get (map (λ one. one.pass) players) k ≡ Some pass → slice_get scripts k ≡ Some script
    → MayPlay suits most_calls pool pass script) → CanPlay suits most_calls is_ready pool scripts gated
can_play_all {P = P} {G = G} suits most_calls is_ready pool scripts players gated are ready may = λ k d within.
    let pass_of : PassPlayer P → Passed = λ one. one.pass in
    let player_of : GatedPlayer P G → PassPlayer P = λ one. one.one in
    let one = get_or gated k d in
    let its : slice_get players k ≡ Some one.one
    = ap (λ all. slice_get all k) (sym are) ∙ slice_get-map player_of gated k
    ∙ ap (option_map player_of) (slice_get-get_or gated k d within) in
    let its_pass : slice_get (map pass_of players) k ≡ Some one.one.pass = slice_get-map pass_of players k ∙ ap (option_map pass_of) its in
    record {
      may = λ script script_at. may k one.one.pass script its_pass script_at;
      ready = λ script script_at. ready k one.one script its script_at;
    }

module _ {S P O G : Type 0} (fits : Course → S → O → Type 0) (outcome : P → O) (told : G → List Moment) where
  abbrev pass_of : GatedPlayer P G → Passed
  pass_of one = one.one.pass

  abbrev outcome_of : GatedPlayer P G → O
  outcome_of one = outcome one.one.player

  abbrev told_of : GatedPlayer P G → List Moment
  told_of one = told one.gate

  -- players that have all played
  pub played_together : (scripts : List S) (old new : List (GatedPlayer P G)) (others : List (List Moment))
      → length old ≡ length scripts → length new ≡ length old → HavePlayed fits outcome told scripts old new
      → PlayedTogether fits (map told_of old ++ others) (map told_of new ++ others) (map pass_of old) scripts (map pass_of new)
      (map outcome_of new)
  played_together scripts old new others many same all = record {
    passes = length-map new pass_of ∙ same ∙ sym (length-map old pass_of);
    one_each = length-map new outcome_of ∙ same ∙ many;
    each = λ k first last script left earlier now at_first at_last at_script at_left at_earlier at_now.
        let begun = mapped_at pass_of old k first at_first in
        let ended = mapped_at pass_of new k last at_last in
        let its_outcome : outcome_of ended.0 ≡ left
        = same_Some (outcome_of ended.0) left (sym (slice_get-map outcome_of new k ∙ ap (option_map outcome_of) ended.1) ∙ at_left) in
        let its_earlier : told_of begun.0 ≡ earlier = told_at old k begun.0 earlier begun.1 at_earlier in
        let its_now : told_of ended.0 ≡ now = told_at new k ended.0 now ended.1 at_now in
        subst (λ (x : O). PlayedOnce fits earlier now script first last x) its_outcome
        (subst (λ (x : List Moment). PlayedOnce fits earlier x script first last (outcome_of ended.0)) its_now
        (subst (λ (x : List Moment). PlayedOnce fits x (told_of ended.0) script first last (outcome_of ended.0)) its_earlier
        (subst (λ (x : Passed). PlayedOnce fits (told_of begun.0) (told_of ended.0) script first x (outcome_of ended.0)) ended.2
        (subst (λ (x : Passed). PlayedOnce fits (told_of begun.0) (told_of ended.0) script x (pass_of ended.0) (outcome_of ended.0)) begun.2
        (here k begun.0 ended.0 script begun.1 ended.1 at_script)))));
  }
    where
      told_at : (players : List (GatedPlayer P G)) (k : ℕ) (one : GatedPlayer P G) (is : List Moment) → slice_get players k ≡ Some one
          → slice_get (map told_of players ++ others) k ≡ Some is → told_of one ≡ is
      told_at players k one is at found =
          let within : k < length (map told_of players) = omega (arith, length-map players told_of, slice_get_within players k one at) in
          same_Some (told_of one) is (sym (slice_get-append (map told_of players) others k within ∙ slice_get-map told_of players k
          ∙ ap (option_map told_of) at) ∙ found)

      here : (k : ℕ) (one other : GatedPlayer P G) (script : S) → slice_get old k ≡ Some one → slice_get new k ≡ Some other
          → slice_get scripts k ≡ Some script
          → PlayedOnce fits (told_of one) (told_of other) script (pass_of one) (pass_of other) (outcome_of other)
      here k one other script at ends script_at =
          subst (λ (x : GatedPlayer P G). PlayedOnce fits (told_of x) (told_of other) script (pass_of x) (pass_of other) (outcome_of other))
          (get_or_from_slice_get old k one one at)
          (subst (λ (x : GatedPlayer P G).
          PlayedOnce fits (told_of (get_or old k one)) (told_of x) script (pass_of (get_or old k one)) (pass_of x) (outcome_of x))
          (get_or_from_slice_get new k other one ends) (all k one (slice_get_within old k one at) script script_at))

-- behind lists of one length the same list stands at the same places
same_behind : {A : Type 0} (xs ys zs : List A) (k : ℕ) → length xs ≡ length ys → length xs ≤ k
    → slice_get (xs ++ zs) k ≡ slice_get (ys ++ zs) k
same_behind [] [] zs k same far = refl
same_behind [] (y ∷ ys) zs k same far = absurd (omega (arith, same))
same_behind (x ∷ xs) [] zs k same far = absurd (omega (arith, same))
same_behind (x ∷ xs) (y ∷ ys) zs zero same far = absurd (omega (arith, far))
same_behind (x ∷ xs) (y ∷ ys) zs (suc k) same far = same_behind xs ys zs k (omega (arith, same)) (omega (arith, far))

-- gates behind those that players had were told of nothing
pub others_untold : (played_before played_now others : List (List Moment)) (processes : ℕ) → length played_before ≡ processes
    → length played_now ≡ length played_before → OthersUntold processes (played_before ++ others) (played_now ++ others)
others_untold played_before played_now others processes many same = record {
  as_many = omega (arith, length-append played_now others, length-append played_before others, same);
  others = λ k far. same_behind played_now played_before others k same (omega (arith, many, same, far));
}

-- what a list that was lent as a slice has once as many items were written to it
pub written_back : {P : Type 0} (count : ℕ) (new rest old : List P) → count ≡ length old → length new ≡ length old
    → take count (new ++ rest) ≡ new
written_back count new rest old all same = take-append-le count new rest (omega arith) ∙ take_all count new (omega arith)

-- ---- parting

-- of the items but the rest something was put into a list
pub record MappedSoFar {A B : Type 0} (f : A → B) (all rest : List A) (done : List B) : Type 0 where
  pub so_far : done ++ map f rest ≡ map f all

-- it was put of fewer than there are
pub mapped_few : {A B : Type 0} (f : A → B) (all rest next : List A) (one : A) (done : List B) → MappedSoFar f all rest done
    → rest ≡ one ∷ next → length done < length all
mapped_few f all rest next one done p is =
    omega (arith, ap length is, ap length p.so_far, length-append done (map f rest), length-map rest f, length-map all f)
