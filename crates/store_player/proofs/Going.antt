-- The playing goes on with each command.
use Rattle.std.proofs.Common.{◌≡◌, ◌≢◌, ℕ, ◌+◌, ◌<◌, Bool, true, false, cond, eqb, if◌then◌else◌, Option, Some, None}
use Rattle.std.proofs.Common.{List, [], ◌∷◌, ◌++◌, length, set, refl, sym, ap, ◌∙◌, subst, arith, append_assoc}
use Rattle.std.specs.List.{Contains, slice_index}
use Rattle.std.specs.Map.{lookup}
use Rattle.std.proofs.Math.Seq.{get_or-append_seam}
use Rattle.std.proofs.lemmas.Option.{none-some, same_Some}
use Rattle.pool_model.specs.declared.entry.Entry.TheVariants as entry
use Rattle.store_script.specs.declared.quad.Quad.{Quad}
use Rattle.store_script.specs.declared.command.Command.{Command}
use Rattle.store_script.specs.declared.command.Command.TheVariants.{Put, Get, Set, Del}
use Rattle.store_script.specs.declared.answered.Answered.{Answered}
use Rattle.store_script.specs.declared.answered.Answered.TheVariants.{Done, Full, Absent, There, Value}
use Rattle.store_script.specs.Fit.{calls_of, calls_of_put, calls_of_del}
use Rattle.store_script.specs.Replies.{Kept, Walk, after, after_put, after_get, after_set, after_del, answering, changed, is_refused, kept}
use Rattle.store_script.specs.Replies.{present_but, with_full, with_put}
use Rattle.store_script.specs.Script.{key_of, slot_of}
use Rattle.store_script.proofs.Following.{eqb-sym, kept-present_but}
use Rattle.block_pool.specs.Passing.{Passed}
use Rattle.object_store.specs.Calls.{KeepsOthers}
use Rattle.object_store.specs.Objects.{HoldsWords, ObjectView}
use Rattle.object_store.specs.Putting.{IsRefused, IsStored}
use Rattle.pass_players.specs.Moments.{Moment, moment_of}
use Rattle.pass_players.proofs.Moments.{has_made_more}
use Rattle.store_player.specs.Playing.{AreHeld, BlockIs, Does, GoesOn, GoesOnUntold, NumbersAre, object_in, quad_words}
use Rattle.store_player.specs.Steps.{least_steps, makes_call}
use Rattle.store_player.proofs.Playing.{so_far_step, block_behind, call_of, made_still, took_still, took_call, kept_filled, kept_empty}
use Rattle.store_player.proofs.Written.{present_written, blocks_written, held_written, apart_written}

-- what a pass holds and knows it does where only its moves differ
held_still : (slots : List (Option (ObjectView Quad))) (old new : Passed) → new.held ≡ old.held → new.known ≡ old.known
    → AreHeld slots old → AreHeld slots new
held_still slots old new held known are slot object is =
    let at = are slot object is in
    record {
      held = subst (λ (bs : List ℕ). Contains bs object.block) (sym held) at.held;
      known = rw known at.known;
    }

-- a command that makes no call and changes no slot is answered
module _ (command : Command) (answer : Answered) (old new : Passed) (slots : List (Option (ObjectView Quad)))
    (is : new ≡ record old { moves = old.moves + least_steps command answer })
    (none : makes_call command answer ≡ false)
    (says : (walk : Walk) (refused : List Bool) → NumbersAre (kept walk (key_of command)) (object_in slots (slot_of command))
    → after refused walk command ≡ answering walk answer)
    (calls : (i : ℕ) (walk : Walk) (refused : List Bool) (blocks : List ℕ)
    → NumbersAre (kept walk (key_of command)) (object_in slots (slot_of command)) → calls_of i refused blocks walk command ≡ []) where
  pub goes_still : GoesOnUntold command answer old new slots slots
  goes_still told keys done start answers first placed p =
      let same = p.present (key_of command) (slot_of command) placed in
      let moves : new.moves ≡ old.moves + least_steps command answer = ap (λ (q : Passed). q.moves) is in
      let stays : new ≡ record old { moves = new.moves; known = new.known } =
      is ∙ sym (ap (λ (q : Passed). record old { moves = q.moves; known = q.known }) is) in
      so_far_step keys done command start old new slots slots answers answer first told told [] [] [] (answering p.walk answer) p
      (λ more. says p.walk (p.refused ++ ([] ++ more)) same)
      (λ more others. calls start.number p.walk (p.refused ++ ([] ++ more)) (p.blocks ++ ([] ++ others)) same)
      (omega arith) refl (omega arith) refl p.present
      (held_still slots old new (ap (λ (q : Passed). q.held) is) (ap (λ (q : Passed). q.known) is) p.held) p.apart
      (λ key slot at. block_behind p.blocks [] (kept p.walk key) (object_in slots slot) (p.block_of key slot at))
      (made_still p.calls first told start old new stays p.made)
      (took_still start.sizes.quantum start.moves done answers p.calls old.moves new.moves command answer p.took none moves)

-- a pass that made no step
unmoved : (pass : Passed) → pass ≡ record pass { moves = pass.moves + 0 }
unmoved pass = let same : pass.moves ≡ pass.moves + 0 = omega arith in ap (λ (n : ℕ). record pass { moves = n }) same

-- a put of a present key
pub goes_there : (key slot : ℕ) (value : Quad) (pass : Passed) (slots : List (Option (ObjectView Quad))) (object : ObjectView Quad)
    → object_in slots slot ≡ Some object → GoesOnUntold (Put key slot value) There pass pass slots slots
goes_there key slot value pass slots object has =
    goes_still (Put key slot value) There pass pass slots (unmoved pass) refl
    (λ walk refused same. ap (after_put refused walk key value) (kept_filled (object_in slots slot) (kept walk key) object same has).1)
    (λ i walk refused blocks same.
    ap (calls_of_put i refused blocks walk) (kept_filled (object_in slots slot) (kept walk key) object same has).1)

-- commands of an absent key
pub goes_get_absent : (key slot : ℕ) (pass : Passed) (slots : List (Option (ObjectView Quad)))
    → object_in slots slot ≡ None → GoesOnUntold (Get key slot) Absent pass pass slots slots
goes_get_absent key slot pass slots has =
    goes_still (Get key slot) Absent pass pass slots (unmoved pass) refl
    (λ walk refused same. ap (after_get walk key) (kept_empty (object_in slots slot) (kept walk key) same has))
    (λ i walk refused blocks same. refl)

pub goes_set_absent : (key slot index number : ℕ) (pass : Passed) (slots : List (Option (ObjectView Quad)))
    → object_in slots slot ≡ None → GoesOnUntold (Set key slot index number) Absent pass pass slots slots
goes_set_absent key slot index number pass slots has =
    goes_still (Set key slot index number) Absent pass pass slots (unmoved pass) refl
    (λ walk refused same. ap (after_set walk key index number) (kept_empty (object_in slots slot) (kept walk key) same has))
    (λ i walk refused blocks same. refl)

pub goes_del_absent : (key slot : ℕ) (pass : Passed) (slots : List (Option (ObjectView Quad)))
    → object_in slots slot ≡ None → GoesOnUntold (Del key slot) Absent pass pass slots slots
goes_del_absent key slot pass slots has =
    goes_still (Del key slot) Absent pass pass slots (unmoved pass) refl
    (λ walk refused same. ap (after_del walk key) (kept_empty (object_in slots slot) (kept walk key) same has))
    (λ i walk refused blocks same. ap (calls_of_del i blocks) (kept_empty (object_in slots slot) (kept walk key) same has))

-- a get of a present key
pub goes_value : (key slot : ℕ) (old new : Passed) (slots : List (Option (ObjectView Quad))) (object : ObjectView Quad)
    → object_in slots slot ≡ Some object → new ≡ record old { moves = old.moves + 4 }
    → GoesOnUntold (Get key slot) (Value key object.value) old new slots slots
goes_value key slot old new slots object has is =
    goes_still (Get key slot) (Value key object.value) old new slots is refl
    (λ walk refused same.
    let before = kept_filled (object_in slots slot) (kept walk key) object same has in
    ap (after_get walk key) before.1 ∙ ap (λ v. answering walk (Value key v)) (sym before.2))
    (λ i walk refused blocks same. refl)

-- the pass holds the objects of other slots as it did where their blocks differ
others_held : (slots : List (Option (ObjectView Quad))) (slot block : ℕ) (old new : Passed) → KeepsOthers block old new → AreHeld slots old
    → ((place : ℕ) (other : ObjectView Quad) → place ≢ slot → object_in slots place ≡ Some other → other.block ≢ block)
    → (place : ℕ) (other : ObjectView Quad) → place ≢ slot → object_in slots place ≡ Some other
    → HoldsWords 4 (quad_words other.value) other.block new
others_held slots slot block old new keeps are apart place other differs has =
    let at = are place other has in
    let ne = apart place other differs has in
    record {
      held = keeps.held other.block ne at.held;
      known = λ index less. keeps.known other.block ne index ∙ at.known index less;
    }

-- what stands behind a list is at its length
refused_at : (refused : List Bool) (b : Bool) (more : List Bool) (n : ℕ) → length refused ≡ n
    → is_refused (refused ++ (b ∷ [] ++ more)) n ≡ b
refused_at refused b more n e = ap (is_refused (refused ++ (b ∷ more))) (sym e) ∙ get_or-append_seam refused b more false

block_at : (blocks : List ℕ) (b : ℕ) (more : List ℕ) (n : ℕ) → length blocks ≡ n → slice_index (blocks ++ (b ∷ [] ++ more)) n ≡ b
block_at blocks b more n e = ap (slice_index (blocks ++ (b ∷ more))) (sym e) ∙ get_or-append_seam blocks b more 0

-- a put that is refused
pub goes_full : (key slot : ℕ) (value : Quad) (old new : Passed) (slots : List (Option (ObjectView Quad))) (told now : List Moment)
    (given : Quad) → object_in slots slot ≡ None → Does (entry.Dry old.number) 1 old new → IsRefused value old new given
    → now ≡ told ++ moment_of old ∷ [] → GoesOn (Put key slot value) Full old new slots slots told now
goes_full key slot value old new slots told now given has call refused tells keys done start answers first placed p =
    let none = kept_empty (object_in slots slot) (kept p.walk key) (p.present key slot placed) has in
    let dry : (more : List Bool) → is_refused (p.refused ++ (true ∷ [] ++ more)) p.walk.puts ≡ true
    = λ more. refused_at p.refused true more p.walk.puts p.refused_each in
    let same = p.made.grown.same in
    let made_it : Does (entry.Dry start.number) 1 old new = subst (λ (i : ℕ). Does (entry.Dry i) 1 old new) same.number call in
    let one = call_of (entry.Dry start.number) old new in
    so_far_step keys done (Put key slot value) start old new slots slots answers Full first told now (true ∷ []) (0 ∷ []) (one ∷ [])
    (with_full p.walk) p
    (λ more. ap (after_put (p.refused ++ (true ∷ [] ++ more)) p.walk key value) none
    ∙ ap (λ b. if b then with_full p.walk else with_put p.walk key value) (dry more))
    (λ more others. ap (calls_of_put start.number (p.refused ++ (true ∷ [] ++ more)) (p.blocks ++ (0 ∷ [] ++ others)) p.walk) none
    ∙ ap (λ b. (if b then entry.Dry start.number
    else entry.Got start.number (slice_index (p.blocks ++ (0 ∷ [] ++ others)) p.walk.puts)) ∷ []) (dry more))
    refl refl (omega arith) refl p.present (held_still slots old new refused.held refused.known p.held) p.apart
    (λ key slot at. block_behind p.blocks (0 ∷ []) (kept p.walk key) (object_in slots slot) (p.block_of key slot at))
    (has_made_more p.calls one first told now start old new p.made refl made_it.made tells)
    (took_call done answers p.calls (Put key slot value) Full start old new same.sizes p.took refl refl made_it)

-- a put that is stored
pub goes_got : (key slot : ℕ) (value : Quad) (old new : Passed) (slots : List (Option (ObjectView Quad))) (told now : List Moment)
    (object : ObjectView Quad) → slot < length slots → object_in slots slot ≡ None → Does (entry.Got old.number object.block) 5 old new
    → IsStored 4 quad_words value old new object → now ≡ told ++ moment_of old ∷ []
    → GoesOn (Put key slot value) Done old new slots (set slots slot (Some object)) told now
goes_got key slot value old new slots told now object within has call stored tells keys done start answers first placed p =
    let none = kept_empty (object_in slots slot) (kept p.walk key) (p.present key slot placed) has in
    let block = object.block in
    let got : (more : List Bool) → is_refused (p.refused ++ (false ∷ [] ++ more)) p.walk.puts ≡ false
    = λ more. refused_at p.refused false more p.walk.puts p.refused_each in
    let mine : (others : List ℕ) → slice_index (p.blocks ++ (block ∷ [] ++ others)) p.walk.puts ≡ block
    = λ others. block_at p.blocks block others p.walk.puts p.blocks_each in
    let same = p.made.grown.same in
    let made_it : Does (entry.Got start.number block) 5 old new = subst (λ (i : ℕ). Does (entry.Got i block) 5 old new) same.number call in
    let one = call_of (entry.Got start.number block) old new in
    let found : Kept = record { put = p.walk.puts; value = value } in
    so_far_step keys done (Put key slot value) start old new slots (set slots slot (Some object)) answers Done first told now
    (false ∷ []) (block ∷ []) (one ∷ []) (with_put p.walk key value) p
    (λ more. ap (after_put (p.refused ++ (false ∷ [] ++ more)) p.walk key value) none
    ∙ ap (λ b. if b then with_full p.walk else with_put p.walk key value) (got more))
    (λ more others. ap (calls_of_put start.number (p.refused ++ (false ∷ [] ++ more)) (p.blocks ++ (block ∷ [] ++ others)) p.walk) none
    ∙ ap (λ b. (if b then entry.Dry start.number
    else entry.Got start.number (slice_index (p.blocks ++ (block ∷ [] ++ others)) p.walk.puts)) ∷ []) (got more)
    ∙ ap (λ b. entry.Got start.number b ∷ []) (mine others))
    refl refl (omega arith) refl
    (present_written slots slot (Some object) within keys key (Some found) p.walk (with_put p.walk key value) placed (λ q. refl)
    (ap Some stored.value) p.present)
    (held_written slots slot (Some object) within old new
    (λ one e. subst (λ (o : ObjectView Quad). HoldsWords 4 (quad_words o.value) o.block new) (same_Some object one e)
    (rw stored.value stored.holds))
    (others_held slots slot block old new stored.others p.held (λ place other differs at same.
    stored.fresh (subst (Contains old.held) same (p.held place other at).held))))
    (apart_written slots slot (Some object) within
    (λ one other place e differs at same. stored.fresh
    (subst (Contains old.held) (sym same ∙ ap (λ (o : ObjectView Quad). o.block) (sym (same_Some object one e)))
    (p.held place other at).held)) p.apart)
    (blocks_written slots slot (Some object) within keys key (Some found) p.walk (with_put p.walk key value) p.blocks (block ∷ []) placed
    (λ q. refl)
    (λ others. ap (λ bs. slice_index bs p.walk.puts) (append_assoc p.blocks (block ∷ []) others) ∙ mine others)
    (λ key slot at. block_behind p.blocks (block ∷ []) (kept p.walk key) (object_in slots slot) (p.block_of key slot at)))
    (has_made_more p.calls one first told now start old new p.made refl made_it.made tells)
    (took_call done answers p.calls (Put key slot value) Done start old new same.sizes p.took refl refl made_it)

-- a set keeps other numbers for its key
changed_keeps : (walk : Walk) (key : ℕ) (next : Kept) (q : ℕ)
    → cond (eqb q key) (Some next) (lookup (eqb q) (present_but walk key)) ≡ cond (eqb q key) (Some next) (kept walk q)
changed_keeps walk key next q = go (eqb key q) refl
  where
    go : (b : Bool) → eqb key q ≡ b
        → cond (eqb q key) (Some next) (lookup (eqb q) (present_but walk key)) ≡ cond (eqb q key) (Some next) (kept walk q)
    go true e = rw (eqb-sym q key, e) refl
    go false e = ap (cond (eqb q key) (Some next)) (kept-present_but walk key q ∙ ap (λ b. cond b None (kept walk q)) e)

-- a set of a present key
pub goes_changed : (key slot index number : ℕ) (old new : Passed) (slots : List (Option (ObjectView Quad)))
    (object given : ObjectView Quad) → slot < length slots → object_in slots slot ≡ Some object
    → given ≡ record object { value = changed object.value index number }
    → HoldsWords 4 (quad_words (changed object.value index number)) object.block new → KeepsOthers object.block old new
    → new ≡ record old { moves = old.moves + 8; known = new.known }
    → GoesOnUntold (Set key slot index number) Done old new slots (set slots slot (Some given))
goes_changed key slot index number old new slots object given within has written holds keeps is told keys done start answers first placed
    p =
    let before = kept_filled (object_in slots slot) (kept p.walk key) object (p.present key slot placed) has in
    let next : Kept = record before.0 { value = changed before.0.value index number } in
    let later : Walk = record (answering p.walk Done) { present = (key, next) ∷ present_but p.walk key } in
    let moves : new.moves ≡ old.moves + 8 = ap (λ (q : Passed). q.moves) is in
    let value : given.value ≡ changed object.value index number = ap (λ (o : ObjectView Quad). o.value) written in
    let block : given.block ≡ object.block = ap (λ (o : ObjectView Quad). o.block) written in
    so_far_step keys done (Set key slot index number) start old new slots (set slots slot (Some given)) answers Done first
    told told [] [] [] later p
    (λ more. ap (after_set p.walk key index number) before.1)
    (λ more others. refl)
    (omega arith) refl (omega arith) refl
    (present_written slots slot (Some given) within keys key (Some next) p.walk later placed (changed_keeps p.walk key next)
    (ap Some (value ∙ ap (λ v. changed v index number) before.2)) p.present)
    (held_written slots slot (Some given) within old new
    (λ one e. subst (λ (o : ObjectView Quad). HoldsWords 4 (quad_words o.value) o.block new) (same_Some given one e)
    (rw (value, block) holds))
    (others_held slots slot object.block old new keeps p.held
    (λ place other differs at same. differs (p.apart place slot other object at has same))))
    (apart_written slots slot (Some given) within
    (λ one other place e differs at same. differs (p.apart place slot other object at has
    (sym same ∙ ap (λ (o : ObjectView Quad). o.block) (sym (same_Some given one e)) ∙ block))) p.apart)
    (blocks_written slots slot (Some given) within keys key (Some next) p.walk later p.blocks [] placed (changed_keeps p.walk key next)
    (λ others. block_behind p.blocks [] (Some before.0) (Some object)
    (subst (λ (o : Option (ObjectView Quad)). BlockIs p.blocks (Some before.0) o) has
    (subst (λ (k : Option Kept). BlockIs p.blocks k (object_in slots slot)) before.1 (p.block_of key slot placed))) others ∙ sym block)
    (λ key slot at. block_behind p.blocks [] (kept p.walk key) (object_in slots slot) (p.block_of key slot at)))
    (made_still p.calls first told start old new (is ∙ ap (λ (n : ℕ). record old { moves = n; known = new.known }) (sym moves)) p.made)
    (took_still start.sizes.quantum start.moves done answers p.calls old.moves new.moves (Set key slot index number) Done p.took refl moves)

-- a del keeps nothing for its key
removed_keeps : (walk : Walk) (key q : ℕ) → lookup (eqb q) (present_but walk key) ≡ cond (eqb q key) None (kept walk q)
removed_keeps walk key q = kept-present_but walk key q ∙ ap (λ b. cond b None (kept walk q)) (eqb-sym key q)

-- a del of a present key
pub goes_deleted : (key slot : ℕ) (old new : Passed) (slots : List (Option (ObjectView Quad))) (told now : List Moment)
    (object : ObjectView Quad) → slot < length slots → object_in slots slot ≡ Some object
    → Does (entry.Back old.number object.block) 5 old new → KeepsOthers object.block old new → now ≡ told ++ moment_of old ∷ []
    → GoesOn (Del key slot) Done old new slots (set slots slot None) told now
goes_deleted key slot old new slots told now object within has call keeps tells keys done start answers first placed p =
    let before = kept_filled (object_in slots slot) (kept p.walk key) object (p.present key slot placed) has in
    let later : Walk = record (answering p.walk Done) { present = present_but p.walk key } in
    let block_is : BlockIs p.blocks (Some before.0) (Some object)
    = subst (λ (o : Option (ObjectView Quad)). BlockIs p.blocks (Some before.0) o) has
    (subst (λ (k : Option Kept). BlockIs p.blocks k (object_in slots slot)) before.1 (p.block_of key slot placed)) in
    let same = p.made.grown.same in
    let made_it : Does (entry.Back start.number object.block) 5 old new
    = subst (λ (i : ℕ). Does (entry.Back i object.block) 5 old new) same.number call in
    let one = call_of (entry.Back start.number object.block) old new in
    so_far_step keys done (Del key slot) start old new slots (set slots slot None) answers Done first told now [] [] (one ∷ []) later p
    (λ more. ap (after_del p.walk key) before.1)
    (λ more others. ap (calls_of_del start.number (p.blocks ++ ([] ++ others))) before.1
    ∙ ap (λ b. entry.Back start.number b ∷ []) (block_is others))
    (omega arith) refl (omega arith) refl
    (present_written slots slot None within keys key None p.walk later placed (removed_keeps p.walk key) refl p.present)
    (held_written slots slot None within old new (λ one e. absurd (none-some one e))
    (others_held slots slot object.block old new keeps p.held (λ place other differs at same.
    differs (p.apart place slot other object at has same))))
    (apart_written slots slot None within (λ one other place e differs at same. none-some one e) p.apart)
    (blocks_written slots slot None within keys key None p.walk later p.blocks [] placed (removed_keeps p.walk key) tt
    (λ key slot at. block_behind p.blocks [] (kept p.walk key) (object_in slots slot) (p.block_of key slot at)))
    (has_made_more p.calls one first told now start old new p.made refl made_it.made tells)
    (took_call done answers p.calls (Del key slot) Done start old new same.sizes p.took refl refl made_it)
