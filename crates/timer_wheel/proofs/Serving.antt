-- What the parts of a call do to the pass, one after the other.
use Rattle.std.proofs.Common.{◌≡◌, ◌≢◌, ℕ, ◌+◌, ◌-◌, ◌<◌, ◌≤◌, None, Some, List}
use Rattle.std.proofs.Common.{◌∷◌, ◌++◌, length, set, take, drop, refl, sym, ap, subst, ◌∙◌}
use Rattle.std.proofs.Common.{arith, inl, inr}
use Rattle.std.specs.Prelude.{Contains}
use Rattle.std.proofs.lemmas.Bool.{cases_eq}
use Rattle.std.proofs.lemmas.List.{get_or-set_same, get_or-set_other, take-append-le, take_all}
use Rattle.std.proofs.lemmas.Option.{none-some, same_Some}
use Rattle.pool_table.specs.Minds.{KnownWord}
use Rattle.block_pool.specs.Calls.{SamePass}
use Rattle.block_pool.specs.Passing.{Passed, IsOf, Pooled}
use Rattle.object_store.specs.Calls.{CountedWithin, KeepsOthers}
use Rattle.object_store.specs.Objects.{HoldsWords, ObjectView}
use Rattle.timer_wheel.specs.declared.record.TimerRecord.{TimerRecord}
use Rattle.timer_wheel.specs.Places.{Places, AreApart, object_at, relinked, with_next}
use Rattle.timer_wheel.specs.Serving.{AreHeld, IsFar, LeavesFar, Serves}
use Rattle.timer_wheel.specs.Views.{words_of}
use Rattle.timer_wheel.proofs.Chains.{relinked_other, relinked_at, within}
use Rattle.timer_wheel.proofs.Removing.{was_linked}

-- ---- one part after the other

-- it is the same pass after two parts
pub same_again : (a b c : Passed) → SamePass a b → SamePass b c → SamePass a c
same_again a b c one other =
    record { table = other.table ∙ one.table; sizes = other.sizes ∙ one.sizes; number = other.number ∙ one.number }

-- the steps of two parts
pub counted_both : (m n s t u : ℕ) (a b c : Passed) → CountedWithin 0 m s t a b → CountedWithin 0 n t u b c
    → CountedWithin 0 (m + n) s u a c
counted_both m n s t u a b c one other = record {
  made = one.made + other.made;
  least = omega arith;
  most = omega (arith, one.most, other.most);
  steps = omega (arith, one.steps, other.steps);
  moves = omega (arith, one.moves, other.moves);
}

-- a higher bound
pub counted_most : (low m n s t : ℕ) (a b : Passed) → CountedWithin low m s t a b → m ≤ n → CountedWithin 0 n s t a b
counted_most low m n s t a b one more = record {
  made = one.made;
  least = omega arith;
  most = omega (arith, one.most, more);
  steps = one.steps;
  moves = one.moves;
}

-- no steps
pub counted_none : (most s : ℕ) (a : Passed) → CountedWithin 0 most s s a a
counted_none most s a = record { made = 0; least = omega arith; most = omega arith; steps = omega arith; moves = omega arith }

-- a pass is the same as itself
pub same_pass : (a : Passed) → SamePass a a
same_pass a = record { table = refl; sizes = refl; number = refl }

-- nothing is done to other blocks
pub far_still : (P : Places) (a : Passed) → LeavesFar P P a a
far_still P a = record { far = λ other far held. far; held = λ other far held. held; known = λ other far held index. refl }

-- nothing was done
pub serves_none : (most start runs : ℕ) (P : Places) (pass : Passed) → AreHeld P pass → Serves most 0 start start P P runs runs pass pass
serves_none most start runs P pass held = record {
  same = same_pass pass;
  holds = held;
  blocks = refl;
  far = far_still P pass;
  steps = counted_none most start pass;
  age = omega arith;
}

-- two parts leave what is far
pub far_both : (P Q R : Places) (a b c : Passed) → LeavesFar P Q a b → LeavesFar Q R b c → LeavesFar P R a c
far_both P Q R a b c one other = record {
  far = λ block far held. other.far block (one.far block far held) (one.held block far held);
  held = λ block far held. other.held block (one.far block far held) (one.held block far held);
  known = λ block far held index.
      other.known block (one.far block far held) (one.held block far held) index ∙ one.known block far held index;
}

-- two parts of a call
pub serves_both : (m n i j s t u : ℕ) (P Q R : Places) (x y z : ℕ) (a b c : Passed) → Serves m i s t P Q x y a b
    → Serves n j t u Q R y z b c
    → Serves (m + n) (i + j) s u P R x z a c
serves_both m n i j s t u P Q R x y z a b c one other = record {
  same = same_again a b c one.same other.same;
  holds = other.holds;
  blocks = omega (arith, one.blocks, other.blocks);
  far = far_both P Q R a b c one.far other.far;
  steps = counted_both m n s t u a b c one.steps other.steps;
  age = omega (arith, one.age, other.age);
}

-- a part within a higher bound
pub serves_most : (m n i s t : ℕ) (P Q : Places) (x y : ℕ) (a b : Passed) → Serves m i s t P Q x y a b → m ≤ n
    → Serves n i s t P Q x y a b
serves_most m n i s t P Q x y a b one more = record {
  same = one.same;
  holds = one.holds;
  blocks = one.blocks;
  far = one.far;
  steps = counted_most 0 m n s t a b one.steps more;
  age = one.age;
}

-- ---- what one call of the store leaves

-- what is known of another block's words stays
pub holds_other : (count block other : ℕ) (words : List ℕ) (a b : Passed) → KeepsOthers block a b → other ≢ block
    → HoldsWords count words other a → HoldsWords count words other b
holds_other count block other words a b keeps ne holds = record {
  held = keeps.held other ne holds.held;
  known = λ index less. keeps.known other ne index ∙ holds.known index less;
}

-- where only moves changed, all else stays
pub keeps_moves : (block moves : ℕ) (a b c : Passed) → b ≡ record a { moves = moves } → KeepsOthers block b c → KeepsOthers block a c
keeps_moves block moves a b c is keeps =
    let at : KeepsOthers block (record a { moves = moves }) c = subst (λ (p : Passed). KeepsOthers block p c) is keeps in
    record { held = at.held; known = at.known }

-- the record at a place was written again with another link
module _ (before next s t : ℕ) (P : Places) (object : ObjectView TimerRecord) (a b : Passed) (some : before ≢ 0)
    (at : object_at P (before - 1) ≡ Some object) (held : AreHeld P a) (apart : AreApart P) (same : SamePass a b) (blocks : b.held ≡ a.held)
    (kept : HoldsWords 4 (words_of (record object.value { next = next })) object.block b) (keeps : KeepsOthers object.block a b)
    (steps : CountedWithin 0 8 s t a b) (age : b.age ≡ a.age) where
  -- one at that place has the link, and all others are as before
  abbrev Is : ℕ → ObjectView TimerRecord → Type 0
  Is place other = HoldsWords 4 (words_of other.value) other.block b

  holds : AreHeld (relinked before next P) b
  holds place other there = elim (cases_eq (place + 1) before) [
    | inl e ↦
        let place_is : place ≡ before - 1 = omega (arith, e) in
        let was : object_at P place ≡ Some object = ap (object_at P) place_is ∙ at in
        let now : Some (record object { value = record object.value { next = next } }) ≡ Some other
        = sym (relinked_at before next P place e (within P place object was) ∙ ap (with_next next) was) ∙ there in
        let is = same_Some (record object { value = record object.value { next = next } }) other now in
        subst (λ (o : ObjectView TimerRecord). HoldsWords 4 (words_of o.value) o.block b) is kept
    | inr ne ↦
        let was : object_at P place ≡ Some other = sym (relinked_other before next P place ne) ∙ there in
        holds_other 4 object.block other.block (words_of other.value) a b keeps
        (λ (e : other.block ≡ object.block).
        let q : place ≡ before - 1 = apart place (before - 1) other object was at e in ne (omega (arith, q, some)))
        (held place other was)
  ]

  -- the part that writes it
  pub serves_relinked : (runs : ℕ) → Serves 8 0 s t P (relinked before next P) runs runs a b
  serves_relinked runs =
      let else : (other : ℕ) → IsFar P other → other ≢ object.block = λ other far e. far (before - 1) object at (sym e) in
      record {
        same = same;
        holds = holds;
        blocks = ap (λ (bs : List ℕ). length bs + runs) blocks;
        far = record {
          far = λ other far was place one there.
              let had = was_linked before next P place one there in λ e. far place had.0 had.1.0 (had.1.1 ∙ e);
          held = λ other far was. keeps.held other (else other far) was;
          known = λ other far was index. keeps.known other (else other far) index;
        };
        steps = steps;
        age = omega (arith, age);
      }

-- a new object was put at an empty place
module _ (q m s t runs : ℕ) (P : Places) (object : ObjectView TimerRecord) (a b : Passed) (low : q < length P) (empty : object_at P q ≡
    None)
    (held : AreHeld P a) (same : SamePass a b) (fresh : ¬ Contains a.held object.block)
    (holds : HoldsWords 4 (words_of object.value) object.block b) (keeps : KeepsOthers object.block a b)
    (blocks : b.held ≡ object.block ∷ a.held) (steps : CountedWithin 0 m s t a b) (age : b.age ≤ a.age + 1) where
  -- its block is none of the others
  pub fresh_far : IsFar P object.block
  fresh_far place other at e = fresh (subst (Contains a.held) e (held place other at).held)

  at_place : (place : ℕ) (other : ObjectView TimerRecord) → object_at (set P q (Some object)) place ≡ Some other
      → HoldsWords 4 (words_of other.value) other.block b
  at_place place other at = elim (cases_eq place q) [
    | inl e ↦ subst (λ (o : ObjectView TimerRecord). HoldsWords 4 (words_of o.value) o.block b)
        (same_Some object other (sym (get_or-set_same P q (Some object) None low) ∙ ap (object_at (set P q (Some object))) (sym e) ∙ at))
        holds
    | inr ne ↦
        let was : object_at P place ≡ Some other = sym (get_or-set_other P q place (Some object) None ne) ∙ at in
        holds_other 4 object.block other.block (words_of other.value) a b keeps (fresh_far place other was) (held place other was)
  ]

  far_filled : (other : ℕ) → IsFar P other → Contains a.held other → IsFar (set P q (Some object)) other
  far_filled other far was place one at = elim (cases_eq place q) [
    | inl e ↦ λ same_block.
        let is : object ≡ one =
        same_Some object one (sym (get_or-set_same P q (Some object) None low) ∙ ap (object_at (set P q (Some object))) (sym e) ∙ at) in
        fresh (subst (Contains a.held) (sym (ap (λ (o : ObjectView TimerRecord). o.block) is ∙ same_block)) was)
    | inr ne ↦ far place one (sym (get_or-set_other P q place (Some object) None ne) ∙ at)
  ]

  -- the part that puts it
  pub serves_filled : Serves m 1 s t P (set P q (Some object)) runs (runs + 1) a b
  serves_filled =
      let else : (other : ℕ) → Contains a.held other → other ≢ object.block = λ other was e. fresh (subst (Contains a.held) e was) in
      let longer : length b.held ≡ length (object.block ∷ a.held) = ap length blocks in
      record {
        same = same;
        holds = at_place;
        blocks = omega (arith, longer);
        far = record {
          far = far_filled;
          held = λ other far was. keeps.held other (else other was) was;
          known = λ other far was index. keeps.known other (else other was) index;
        };
        steps = steps;
        age = age;
      }

-- the object at a place was taken out
module _ (q m s t runs : ℕ) (P : Places) (object : ObjectView TimerRecord) (a b : Passed) (at : object_at P q ≡ Some object)
    (held : AreHeld P a) (apart : AreApart P) (same : SamePass a b) (keeps : KeepsOthers object.block a b)
    (fewer : length b.held + 1 ≡ length a.held) (steps : CountedWithin 0 m s t a b) (age : b.age ≤ a.age + 1) where
  stood : (place : ℕ) (other : ObjectView TimerRecord) → object_at (set P q None) place ≡ Some other
      → (place ≢ q) × (object_at P place ≡ Some other)
  stood place other there = elim (cases_eq place q) [
    | inl e ↦ absurd (none-some other
        (sym (get_or-set_same P q None None (within P q object at)) ∙ ap (object_at (set P q None)) (sym e) ∙ there))
    | inr ne ↦ (ne, sym (get_or-set_other P q place None None ne) ∙ there)
  ]

  -- the part that takes it
  pub serves_emptied : Serves m 1 s t P (set P q None) (runs + 1) runs a b
  serves_emptied =
      let else : (other : ℕ) → IsFar P other → other ≢ object.block = λ other far e. far q object at (sym e) in
      record {
        same = same;
        holds = λ place other there.
            let was = stood place other there in
            holds_other 4 object.block other.block (words_of other.value) a b keeps
            (λ e. was.0 (apart place q other object was.1 at e)) (held place other was.1);
        blocks = omega (arith, fewer);
        far = record {
          far = λ other far was place one there. far place one (stood place one there).1;
          held = λ other far was. keeps.held other (else other far) was;
          known = λ other far was index. keeps.known other (else other far) index;
        };
        steps = steps;
        age = age;
      }

-- ---- what a pass may do still

-- the pass is of its pool still
pub is_of_same : (pool : Pooled) (a b : Passed) → SamePass a b → IsOf pool a → IsOf pool b
is_of_same pool a b same is = record { table = same.table ∙ is.table; sizes = same.sizes ∙ is.sizes }

-- of what is held and known of an object nothing changes where only moves do
pub holds_moved : (count block moves : ℕ) (words : List ℕ) (a b : Passed) → b ≡ record a { moves = moves } → HoldsWords count words block a
    → HoldsWords count words block b
holds_moved count block moves words a b is holds =
    subst (λ (p : Passed). HoldsWords count words block p) (sym is) (record { held = holds.held; known = holds.known })

-- so it is for what stands at all places
pub are_held_moved : (P : Places) (moves : ℕ) (a b : Passed) → b ≡ record a { moves = moves } → AreHeld P a → AreHeld P b
are_held_moved P moves a b is held place object at = holds_moved 4 object.block moves (words_of object.value) a b is (held place object at)

-- a record was read, and written again with another link
pub serves_rewritten : (before next s m t : ℕ) (P : Places) (object : ObjectView TimerRecord) (timer : TimerRecord) (a b c : Passed)
    (known : List KnownWord) → before ≢ 0 → object_at P (before - 1) ≡ Some object → AreHeld P a → AreApart P → timer ≡ object.value
    → b ≡ record a { moves = a.moves + 4 } → c ≡ record b { moves = b.moves + 4; known = known }
    → HoldsWords 4 (words_of (record timer { next = next })) object.block c → KeepsOthers object.block b c → m ≡ s + 4 → t ≡ m + 4
    → (runs : ℕ) → Serves 8 0 s t P (relinked before next P) runs runs a c
serves_rewritten before next s m t P object timer a b c known some at held apart is one two kept keeps first second =
    let moves_one : b.moves ≡ a.moves + 4 = ap (λ (p : Passed). p.moves) one in
    let moves_two : c.moves ≡ b.moves + 4 = ap (λ (p : Passed). p.moves) two in
    serves_relinked before next s t P object a c some at held apart
    (record {
      table = ap (λ (p : Passed). p.table) two ∙ ap (λ (p : Passed). p.table) one;
      sizes = ap (λ (p : Passed). p.sizes) two ∙ ap (λ (p : Passed). p.sizes) one;
      number = ap (λ (p : Passed). p.number) two ∙ ap (λ (p : Passed). p.number) one;
    })
    (ap (λ (p : Passed). p.held) two ∙ ap (λ (p : Passed). p.held) one)
    (subst (λ (r : TimerRecord). HoldsWords 4 (words_of (record r { next = next })) object.block c) is kept)
    (keeps_moves object.block (a.moves + 4) a b c one keeps)
    (record {
      made = 8;
      least = omega arith;
      most = omega arith;
      steps = omega (arith, first, second);
      moves = omega (arith, moves_one, moves_two);
    })
    (ap (λ (p : Passed). p.age) two ∙ ap (λ (p : Passed). p.age) one)

-- what was lent as a slice and came back as long as it was stands as it came back
pub came_back : {X : Type 0} (len : ℕ) (items lent back : List X) → len ≡ length items → lent ≡ items → length back ≡ length lent
    → take len (back ++ drop (length back) items) ≡ back
came_back len items lent back many is same =
    let size : len ≡ length back = many ∙ sym (ap length is) ∙ sym same in
    take-append-le len back (drop (length back) items) (omega (arith, size)) ∙ take_all len back (omega (arith, size))

-- the same, told of what is equal
pub serves_so : (m i s t t' : ℕ) (P Q : Places) (x y y' : ℕ) (a b b' : Passed) → Serves m i s t P Q x y a b → t' ≡ t → b' ≡ b → y' ≡ y
    → Serves m i s t' P Q x y' a b'
serves_so m i s t t' P Q x y y' a b b' serves steps pass runs =
    subst (λ (n : ℕ). Serves m i s n P Q x y' a b') (sym steps)
    (subst (λ (p : Passed). Serves m i s t P Q x y' a p) (sym pass) (subst (λ (n : ℕ). Serves m i s t P Q x n a b) (sym runs) serves))
