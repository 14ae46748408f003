-- What entries without a refusal tell of the store script that they fit.
use Rattle.std.proofs.Common.{◌≡◌, ℕ, ◌+◌, ◌≤◌, zero, suc, Bool, true, false, cond, Option, Some, None, List, [], ◌∷◌, ◌++◌}
use Rattle.std.proofs.Common.{length, take, fold, refl, sym, ap, ◌∙◌, subst, arith}
use Rattle.std.specs.List.{count_by, slice_index}
use Rattle.std.proofs.lemmas.List.Sums.{sum_by-append}
use Rattle.pool_model.specs.declared.entry.Entry.{Entry}
use Rattle.pool_model.specs.declared.entry.Entry.TheVariants.{Got, Dry}
use Rattle.pool_model.specs.History.{is_got, is_back}
use Rattle.history_invariant.specs.Grips.{times}
use Rattle.enough_blocks.specs.Enough.{NoneIsDry}
use Rattle.enough_blocks.proofs.Refusals.{front_is_not_dry, none_first, none_rest}
use Rattle.store_script.specs.declared.quad.Quad.{Quad}
use Rattle.store_script.specs.declared.command.Command.{Command}
use Rattle.store_script.specs.declared.command.Command.TheVariants.{Put, Get, Set, Del}
use Rattle.store_script.specs.Fit.{calls_from, calls_of, calls_of_del, calls_of_put}
use Rattle.store_script.specs.Replies.{Kept, Walk, after, after_del, after_get, after_put, after_set, changed, is_refused, kept}
use Rattle.store_script.specs.Replies.{with_full, with_put}
use Rattle.store_runs.specs.Enough.{no_refusals}
use Rattle.store_runs.proofs.Present.{FitsKept, HasEachOnce, each_once_changed, each_once_without, keys_in, once_with, one_fewer}
use Rattle.store_runs.proofs.Present.{times_fit_kept}

-- calls of which none is a refusal count the keys from one walk to the next, which is the one where nothing is refused
record Counts (calls : List Entry) (walk mine free : Walk) : Type 0 where
  alike : mine ≡ free
  once : HasEachOnce free
  counted : count_by is_got calls + length walk.present ≡ count_by is_back calls + length free.present

-- from this walk on, the entries got and gave back as many blocks as keys come and go with the first so many commands, where nothing is
-- refused
pub record CountsKeys (walk : Walk) (commands : List Command) (entries : List Entry) : Type 0 where
  pub count : ℕ
  pub within : count ≤ length commands
  pub counted : count_by is_got entries + length walk.present
      ≡ count_by is_back entries + length (fold (after no_refusals) walk (take count commands)).present

-- some entries that begin with one call at most, and are some at least, begin with that call
begin_with_call : (calls : List Entry) (entry : Entry) (entries rest more : List Entry) → length calls ≤ 1
    → (entry ∷ entries) ++ rest ≡ calls ++ more → (others : List Entry) × (entry ∷ entries ≡ calls ++ others) × (others ++ rest ≡ more)
begin_with_call [] entry entries rest more few made = (entry ∷ entries, refl, made)
begin_with_call (call ∷ []) entry entries rest more few made = (entries, cc, cc)
begin_with_call (call ∷ other ∷ calls) entry entries rest more few made = absurd (omega (arith, few))

not_refused : (put : ℕ) → is_refused no_refusals put ≡ false
not_refused zero = refl
not_refused (suc put) = refl

module _ (i : ℕ) (refused : List Bool) (blocks : List ℕ) where
  put_counts : (walk : Walk) (key : ℕ) (value : Quad) (before : Option Kept) → FitsKept before (times key (keys_in walk.present))
      → HasEachOnce walk → NoneIsDry (calls_of_put i refused blocks walk before)
      → Counts (calls_of_put i refused blocks walk before) walk (after_put refused walk key value before)
      (after_put no_refusals walk key value before)
  put_counts walk key value (Some before) fits once none = record { alike = refl; once = once; counted = refl }
  put_counts walk key value None fits once none =
      by_answer (is_refused refused walk.puts) (is_refused no_refusals walk.puts) (not_refused walk.puts) none
    where
      got : Entry
      got = Got i (slice_index blocks walk.puts)

      by_answer : (dry free : Bool) → free ≡ false → NoneIsDry (cond dry (Dry i) got ∷ [])
          → Counts (cond dry (Dry i) got ∷ []) walk (cond dry (with_full walk) (with_put walk key value))
          (cond free (with_full walk) (with_put walk key value))
      by_answer true free is none_dry = absurd (front_is_not_dry i (Dry i) [] none_dry refl)
      by_answer false true is none_dry = absurd cc
      by_answer false false is none_dry = record {
        alike = refl;
        once = once_with key (record { put = walk.puts; value = value }) walk.present once fits;
        counted = omega arith;
      }

  get_counts : (walk : Walk) (key : ℕ) (before : Option Kept) → HasEachOnce walk
      → Counts [] walk (after_get walk key before) (after_get walk key before)
  get_counts walk key None once = record { alike = refl; once = once; counted = refl }
  get_counts walk key (Some before) once = record { alike = refl; once = once; counted = refl }

  set_counts : (walk : Walk) (key index number : ℕ) (before : Option Kept) → FitsKept before (times key (keys_in walk.present))
      → HasEachOnce walk → Counts [] walk (after_set walk key index number before) (after_set walk key index number before)
  set_counts walk key index number None fits once = record { alike = refl; once = once; counted = refl }
  set_counts walk key index number (Some before) fits once = record {
    alike = refl;
    once = each_once_changed key (record before { value = changed before.value index number }) walk once;
    counted = omega (arith, one_fewer key walk once fits);
  }

  del_counts : (walk : Walk) (key : ℕ) (before : Option Kept) → FitsKept before (times key (keys_in walk.present)) → HasEachOnce walk
      → Counts (calls_of_del i blocks before) walk (after_del walk key before) (after_del walk key before)
  del_counts walk key None fits once = record { alike = refl; once = once; counted = refl }
  del_counts walk key (Some before) fits once = record {
    alike = refl;
    once = each_once_without key walk once;
    counted = omega (arith, one_fewer key walk once fits);
  }

  command_counts : (walk : Walk) (command : Command) → HasEachOnce walk → NoneIsDry (calls_of i refused blocks walk command)
      → Counts (calls_of i refused blocks walk command) walk (after refused walk command) (after no_refusals walk command)
  command_counts walk (Put key slot value) once none = put_counts walk key value (kept walk key) (times_fit_kept key walk.present) once none
  command_counts walk (Get key slot) once none = get_counts walk key (kept walk key) once
  command_counts walk (Set key slot index number) once none =
      set_counts walk key index number (kept walk key) (times_fit_kept key walk.present) once
  command_counts walk (Del key slot) once none = del_counts walk key (kept walk key) (times_fit_kept key walk.present) once

  -- where none of the calls for commands is a refusal, the walk is the one where nothing is refused
  pub walks_alike : (walk : Walk) (commands : List Command) → HasEachOnce walk → NoneIsDry (calls_from i refused blocks walk commands)
      → fold (after refused) walk commands ≡ fold (after no_refusals) walk commands
  walks_alike walk [] once none = refl
  walks_alike walk (command ∷ commands) once none =
      let calls = calls_of i refused blocks walk command in
      let later = calls_from i refused blocks (after refused walk command) commands in
      let goes = command_counts walk command once (none_first calls later none) in
      walks_alike (after refused walk command) commands (subst HasEachOnce (sym goes.alike) goes.once) (none_rest calls later none)
      ∙ ap (λ next. fold (after no_refusals) next commands) goes.alike

  -- each command makes one call at most
  put_is_one : (walk : Walk) (before : Option Kept) → length (calls_of_put i refused blocks walk before) ≤ 1
  put_is_one walk None = omega arith
  put_is_one walk (Some before) = omega arith

  del_is_one : (before : Option Kept) → length (calls_of_del i blocks before) ≤ 1
  del_is_one None = omega arith
  del_is_one (Some before) = omega arith

  command_is_one : (walk : Walk) (command : Command) → length (calls_of i refused blocks walk command) ≤ 1
  command_is_one walk (Put key slot value) = put_is_one walk (kept walk key)
  command_is_one walk (Get key slot) = omega arith
  command_is_one walk (Set key slot index number) = omega arith
  command_is_one walk (Del key slot) = del_is_one (kept walk key)

  -- the first of the calls for commands, where none of these is a refusal
  pub counts_keys : (walk : Walk) (commands : List Command) (entries rest : List Entry) → HasEachOnce walk → NoneIsDry entries
      → entries ++ rest ≡ calls_from i refused blocks walk commands → CountsKeys walk commands entries
  counts_keys walk commands [] rest once none made = record { count = 0; within = omega arith; counted = refl }
  counts_keys walk [] (entry ∷ entries) rest once none made = absurd cc
  counts_keys walk (command ∷ commands) (entry ∷ entries) rest once none made =
      let calls = calls_of i refused blocks walk command in
      let later = calls_from i refused blocks (after refused walk command) commands in
      let (others, parts, made_later) = begin_with_call calls entry entries rest later (command_is_one walk command) made in
      let none_of_parts = subst NoneIsDry parts none in
      let goes = command_counts walk command once (none_first calls others none_of_parts) in
      let more = counts_keys (after no_refusals walk command) commands others rest goes.once (none_rest calls others none_of_parts)
      (subst (λ (next : Walk). others ++ rest ≡ calls_from i refused blocks next commands) goes.alike made_later) in
      record {
        count = suc more.count;
        within = omega (arith, more.within);
        counted = omega (
          arith,
          goes.counted,
          more.counted,
          ap (count_by is_got) parts,
          ap (count_by is_back) parts,
          sum_by-append (λ call. cond (is_got call) 1 0) calls others,
          sum_by-append (λ call. cond (is_back call) 1 0) calls others,
        );
      }
