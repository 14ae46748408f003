-- The calls of a process for a script determine which of its puts of absent keys were refused.
use Rattle.std.proofs.Common.{◌≡◌, ℕ, ◌+◌, ◌<◌, ◌≤◌, inl, inr, Bool, true, false, cond, Option, Some, None}
use Rattle.std.proofs.Common.{List, [], ◌∷◌, ◌++◌, length, fold, refl, sym, ap, ◌∙◌, subst, arith}
use Rattle.std.specs.List.{slice_index}
use Rattle.std.proofs.lemmas.Bool.{cases_lt}
use Rattle.std.proofs.lemmas.List.{get_or_default, same_lists}
use Rattle.pool_model.specs.declared.entry.Entry.{Entry}
use Rattle.pool_model.specs.declared.entry.Entry.TheVariants.{Got, Dry}
use Rattle.store_script.specs.declared.quad.Quad.{Quad}
use Rattle.store_script.specs.declared.command.Command.{Command}
use Rattle.store_script.specs.declared.command.Command.TheVariants.{Put, Get, Set, Del}
use Rattle.store_script.specs.declared.command.StoreScript.{StoreScript}
use Rattle.store_script.specs.Fit.{Fits, calls_from, calls_of, calls_of_del, calls_of_put}
use Rattle.store_script.specs.Replies.{Kept, Walk, after, after_del, after_get, after_put}
use Rattle.store_script.specs.Replies.{after_set, begun, is_refused, kept, with_full, with_put}

-- the puts with these numbers are refused alike
abbrev AreAlike : List Bool → List Bool → ℕ → ℕ → Type 0
AreAlike one other from end = (put : ℕ) → from ≤ put → put < end → is_refused one put ≡ is_refused other put

-- the answer to an allocate tells whether it was refused
same_answer : (i b c : ℕ) (r o : Bool) → cond r (Dry i) (Got i b) ≡ cond o (Dry i) (Got i c) → r ≡ o
same_answer i b c true true e = refl
same_answer i b c true false e = absurd cc
same_answer i b c false true e = absurd cc
same_answer i b c false false e = refl

one_put_more : (walk : Walk) (key : ℕ) (value : Quad) (dry : Bool)
    → (cond dry (with_full walk) (with_put walk key value)).puts ≡ walk.puts + 1
one_put_more walk key value true = refl
one_put_more walk key value false = refl

module _ (i : ℕ) (one other : List Bool) (blocks others : List ℕ) where
  -- what a command leaves where the calls for it, and those that follow, are the same
  abbrev SameAfter : Walk → Walk → Walk → List Entry → List Entry → Type 0
  SameAfter walk mine theirs xs ys = (xs ≡ ys) × (mine ≡ theirs) × AreAlike one other walk.puts mine.puts

  put_tells : (walk : Walk) (key : ℕ) (value : Quad) (before : Option Kept) (xs ys : List Entry)
      → calls_of_put i one blocks walk before ++ xs ≡ calls_of_put i other others walk before ++ ys
      → SameAfter walk (after_put one walk key value before) (after_put other walk key value before) xs ys
  put_tells walk key value (Some before) xs ys same = (same, refl, λ put low high. absurd (omega arith))
  put_tells walk key value None xs ys same =
      let answers : cond (is_refused one walk.puts) (Dry i) (Got i (slice_index blocks walk.puts))
      ≡ cond (is_refused other walk.puts) (Dry i) (Got i (slice_index others walk.puts)) = cc in
      let here =
      same_answer i (slice_index blocks walk.puts) (slice_index others walk.puts) (is_refused one walk.puts)
      (is_refused other walk.puts) answers in (
        cc,
        ap (λ dry. cond dry (with_full walk) (with_put walk key value)) here,
        λ put low high.
            let it : walk.puts ≡ put = omega (arith, low, high, one_put_more walk key value (is_refused one walk.puts)) in
            subst (λ (n : ℕ). is_refused one n ≡ is_refused other n) it here,
      )

  del_tells : (before : Option Kept) (xs ys : List Entry) → calls_of_del i blocks before ++ xs ≡ calls_of_del i others before ++ ys
      → xs ≡ ys
  del_tells None xs ys same = same
  del_tells (Some before) xs ys same = cc

  -- no other command counts as a put
  got_still : (before : Option Kept) (walk : Walk) (key : ℕ) → (after_get walk key before).puts ≡ walk.puts
  got_still None walk key = refl
  got_still (Some before) walk key = refl

  set_still : (before : Option Kept) (walk : Walk) (key index number : ℕ) → (after_set walk key index number before).puts ≡ walk.puts
  set_still None walk key index number = refl
  set_still (Some before) walk key index number = refl

  del_still : (before : Option Kept) (walk : Walk) (key : ℕ) → (after_del walk key before).puts ≡ walk.puts
  del_still None walk key = refl
  del_still (Some before) walk key = refl

  command_tells : (walk : Walk) (command : Command) (xs ys : List Entry)
      → calls_of i one blocks walk command ++ xs ≡ calls_of i other others walk command ++ ys
      → SameAfter walk (after one walk command) (after other walk command) xs ys
  command_tells walk (Put key slot value) xs ys same = put_tells walk key value (kept walk key) xs ys same
  command_tells walk (Get key slot) xs ys same =
      (same, refl, λ put low high. absurd (omega (arith, low, high, got_still (kept walk key) walk key)))
  command_tells walk (Set key slot index number) xs ys same =
      (same, refl, λ put low high. absurd (omega (arith, low, high, set_still (kept walk key) walk key index number)))
  command_tells walk (Del key slot) xs ys same =
      (del_tells (kept walk key) xs ys same, refl, λ put low high. absurd (omega (arith, low, high, del_still (kept walk key) walk key)))

  -- the same calls for commands are of the same refusals
  calls_tell : (walk : Walk) (commands : List Command) → calls_from i one blocks walk commands ≡ calls_from i other others walk commands
      → (fold (after one) walk commands ≡ fold (after other) walk commands)
      × AreAlike one other walk.puts (fold (after one) walk commands).puts
  calls_tell walk [] same = (refl, λ put low high. absurd (omega arith))
  calls_tell walk (command ∷ commands) same =
      let first = command_tells walk command (calls_from i one blocks (after one walk command) commands)
      (calls_from i other others (after other walk command) commands) same in
      let rest = calls_tell (after one walk command) commands (first.0 ∙ ap (λ w. calls_from i other others w commands) (sym first.1)) in (
        rest.0 ∙ ap (λ w. fold (after other) w commands) first.1,
        λ put low high. elim (cases_lt put (after one walk command).puts) [
          | inl less ↦ first.2 put low less
          | inr more ↦
              rest.1 put more high
        ],
      )

-- calls that fit a script with two lists of refusals fit it with the same list
pub only_refusals : (i : ℕ) (script : StoreScript) (one other : List Bool) (entries : List Entry) → Fits i script one entries
    → Fits i script other entries → one ≡ other
only_refusals i script one other entries fits also =
    let both = calls_tell i one other fits.blocks also.blocks begun script.commands (sym fits.call_by_call ∙ also.call_by_call) in
    let size : length one ≡ length other = fits.one_each ∙ ap (λ (w : Walk). w.puts) both.0 ∙ sym also.one_each in
    same_lists one other size (λ put d within.
    get_or_default one put d false within ∙ both.1 put (omega arith) (omega (arith, within, fits.one_each))
    ∙ get_or_default other put false d (omega (arith, within, size)))
