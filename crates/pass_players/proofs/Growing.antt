-- What a pass has after one call more.
use Rattle.std.proofs.Common.{◌≡◌, ◌≤◌, ◌∙◌, List, [], ◌∷◌}
use Rattle.std.proofs.Common.{◌++◌, length, take, refl, sym, ap, arith, append_assoc, append-nil, length-append}
use Rattle.std.proofs.Math.Seq.{take-length}
use Rattle.std.proofs.lemmas.List.{take-append-le, take-take, length-take}
use Rattle.pool_model.specs.declared.entry.Entry.{Entry}
use Rattle.block_pool.specs.Passing.{Passed}
use Rattle.pass_players.specs.Growing.{Calls, Grows}

-- a pass that made no call
pub grows_none : (pass : Passed) → Grows [] pass pass
grows_none pass = record {
  same = record { table = refl; sizes = refl; number = refl };
  own = sym (append-nil pass.own);
  seen = take-length pass.seen;
  age = omega arith;
}

-- a list that another begins with is no longer
pub begins_le : (first second : List Entry) → take (length first) second ≡ first → length first ≤ length second
begins_le first second begins = omega (arith, length-take (length first) second, ap length begins)

-- what begins with a list begins with what that one begins with
begins_so : (first second third past entries : List Entry) → take (length first) second ≡ first → take (length second) past ≡ second
    → third ≡ past ++ entries → take (length first) third ≡ first
begins_so first second third past entries one two ends =
    let less : length first ≤ length second = begins_le first second one in
    let more : length second ≤ length past = begins_le second past two in
    ap (take (length first)) ends
    ∙ take-append-le (length first) past entries (omega arith)
    ∙ sym (take-take (length first) (length second) past less)
    ∙ ap (take (length first)) two ∙ one

-- one call more
pub grows_more : (entries : List Entry) (entry : Entry) (start old new : Passed) → Grows entries start old → Calls entry old new
    → Grows (entries ++ entry ∷ []) start new
grows_more entries entry start old new grown call = record {
  same = record {
    table = call.same.table ∙ grown.same.table;
    sizes = call.same.sizes ∙ grown.same.sizes;
    number = call.same.number ∙ grown.same.number;
  };
  own = call.entered.own ∙ ap (λ es. es ++ entry ∷ []) grown.own ∙ append_assoc start.own entries (entry ∷ []);
  seen =
      let more = call.entered.seen in
      begins_so start.seen old.seen new.seen more.past (entry ∷ []) grown.seen more.begins more.ends;
  age = omega (arith, length-append entries (entry ∷ []), grown.age, call.age);
}
