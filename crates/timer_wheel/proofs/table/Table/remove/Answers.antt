use Rattle.std.proofs.Common.{◌≡◌, ℕ, ◌+◌, ◌-◌, ◌<◌, ◌++◌, [], ◌∷◌, None, length, set, refl, ap, sym, subst, ◌∙◌, arith}
use Rattle.std.proofs.lemmas.List.Sums.{fold_push}
use Rattle.timer_wheel.specs.Places.{Places, AreApart, running_after, running_of, object_at}
use Rattle.object_store.specs.Calls.{CountedWithin}
use Rattle.timer_wheel.specs.declared.changes.Change.{Change}
use Rattle.timer_wheel.specs.declared.changes.Change.TheVariants.{Ended}
use Rattle.timer_wheel.proofs.Chains.{found_at}
use Rattle.timer_wheel.proofs.Serving.{serves_so}
use Rattle.timer_wheel.proofs.Removes.{apart_relinked, cut_low, cut_next, cut_place_low, one, removed_backs, removed_on}
use Rattle.timer_wheel.proofs.Removes.{removed_table, serves_remove, stood}
use Rattle.timer_wheel.proofs.table.Table.remove.Goals as goal
use Rattle.timer_wheel.proofs.table.Table.remove.Goals.{in-Some, in_default}

pub cut-requires-clause-before : goal.cut-requires-clause-before
cut-requires-clause-before g c =
    let was = c.args.self.now in
    cut_low was.places.items was.free.items was.lists.items (running_of was.changes) was.running c.requires.table c.args.spot
    c.requires.spot

pub cut-requires-clause-next : goal.cut-requires-clause-next
cut-requires-clause-next g c =
    let was = c.args.self.now in
    let low = cut_next was.places.items was.free.items was.lists.items (running_of was.changes) was.running c.requires.table c.args.spot
    c.requires.spot in
    omega (arith, low, c.requires.backs.all)

pub take-requires-in-Some-clause-object : goal.take-requires-in-Some-clause-object
take-requires-in-Some-clause-object g c =
    let was = c.args.self.now in
    let cut = c.cut.new.self.places.items in
    let low = cut_place_low was.places.items was.free.items was.lists.items (running_of was.changes) was.running c.requires.table
    c.args.spot
    c.requires.spot in
    let low_now : c.args.spot.place < length cut = subst (λ (p : Places). c.args.spot.place < length p) (sym c.cut.ensures.places) low in
    (c.cut.ensures.serves 0).holds c.args.spot.place c.in-Some.object
    (found_at cut c.args.spot.place _ _ _ low_now (c.take.ensures.value ∙ c.index_mut.ensures.value) c.in-Some.is)

pub take-requires-in-Some-clause-room : goal.take-requires-in-Some-clause-room
take-requires-in-Some-clause-room g c =
    let counted = (c.cut.ensures.serves 0).steps in
    let quantum : c.cut.new.pass.sizes.quantum ≡ c.args.pass.now.sizes.quantum = ap (λ p. p.sizes.quantum) c.cut.ensures.pass in
    omega (arith, counted.most, counted.steps, quantum, c.requires.room)

pub returns-clause-table : goal.returns-clause-table
returns-clause-table g c =
    let was = c.args.self.now in
    let place = c.args.spot.place in
    let others = c.cut.ensures.others in
    let ended : Change = Ended c.args.spot.timer.number in
    removed_table was.places.items was.free.items was.lists.items (running_of was.changes) was.running c.requires.table c.args.spot
    c.requires.spot _ _ _ _ _
    (ap (set c.cut.new.self.places.items place) c.take.ensures.after ∙ ap (λ (p : Places). set p place None) c.cut.ensures.places)
    (ap (λ s. set s.free.items (s.running - 1) place) others) c.cut.ensures.lists
    (ap running_of (c.note.ensures ∙ ap (λ s. s.changes ++ ended ∷ []) others) ∙ fold_push running_after [] was.changes ended)
    (ap (λ s. s.running - 1) others)

pub returns-clause-backs : goal.returns-clause-backs
returns-clause-backs g c =
    let was = c.args.self.now in
    let place = c.args.spot.place in
    let others = c.cut.ensures.others in
    let ended : Change = Ended c.args.spot.timer.number in
    removed_backs was.places.items was.free.items was.lists.items (running_of was.changes) was.running c.requires.table c.args.spot
    c.requires.spot (set c.cut.new.self.places.items place c.take.new.self) (set c.cut.new.self.free.items (c.cut.new.self.running - 1)
    place)
    c.cut.new.self.lists.items (running_of c.note.new.self) (c.cut.new.self.running - 1)
    (ap (set c.cut.new.self.places.items place) c.take.ensures.after ∙ ap (λ (p : Places). set p place None) c.cut.ensures.places)
    (ap (λ s. set s.free.items (s.running - 1) place) others) c.cut.ensures.lists
    (ap running_of (c.note.ensures ∙ ap (λ s. s.changes ++ ended ∷ []) others) ∙ fold_push running_after [] was.changes ended)
    (ap (λ s. s.running - 1) others)
    was.backs.items _ c.requires.backs c.cut.ensures.backs

pub returns-clause-goes_on : goal.returns-clause-goes_on
returns-clause-goes_on g c =
    let was = c.args.self.now in
    let place = c.args.spot.place in
    let others = c.cut.ensures.others in
    let ended : Change = Ended c.args.spot.timer.number in
    removed_on was.places.items was.free.items was.lists.items (running_of was.changes) was.running c.requires.table c.args.spot
    c.requires.spot (set c.cut.new.self.places.items place c.take.new.self) (set c.cut.new.self.free.items (c.cut.new.self.running - 1)
    place)
    c.cut.new.self.lists.items (running_of c.note.new.self) (c.cut.new.self.running - 1)
    (ap (set c.cut.new.self.places.items place) c.take.ensures.after ∙ ap (λ (p : Places). set p place None) c.cut.ensures.places)
    (ap (λ s. set s.free.items (s.running - 1) place) others) c.cut.ensures.lists
    (ap running_of (c.note.ensures ∙ ap (λ s. s.changes ++ ended ∷ []) others) ∙ fold_push running_after [] was.changes ended)
    (ap (λ s. s.running - 1) others)

pub returns-clause-serves : goal.returns-clause-serves
returns-clause-serves g c =
    let was = c.args.self.now in
    let cut = c.cut.new.self.places.items in
    let place = c.args.spot.place in
    let table = c.requires.table in
    let quantum : c.cut.new.pass.sizes.quantum ≡ c.args.pass.now.sizes.quantum = ap (λ p. p.sizes.quantum) c.cut.ensures.pass in
    let low : place < length cut = subst (λ (p : Places). place < length p) (sym c.cut.ensures.places)
    (cut_place_low was.places.items was.free.items was.lists.items (running_of was.changes) was.running table c.args.spot
    c.requires.spot) in
    let read : object_at cut place ≡ c.take.result
    = found_at cut place _ _ c.take.result low (c.take.ensures.value ∙ c.index_mut.ensures.value) refl in
    elim c.match-take.branch [
      | in-Some w ↦
          let took = w.take-in-Some in
          let is_one = one was.places.items was.free.items was.lists.items (running_of was.changes) was.running table c.args.spot
          c.requires.spot in
          let apart : AreApart cut = subst AreApart (sym c.cut.ensures.places)
          (apart_relinked c.args.spot.before c.args.spot.timer.next was.places.items table.apart) in
          let counted = subst (λ (q : ℕ). CountedWithin 5 (q + 1 + 4) c.cut.new.steps took.new.steps c.cut.new.pass took.new.pass) quantum
          took.ensures.steps in
          serves_so (c.args.pass.now.sizes.quantum + 13) 1 c.args.steps.now took.new.steps c.match-take.steps was.places.items
          (set cut place c.take.new.self) was.running (was.running - 1) (c.cut.new.self.running - 1) c.args.pass.now took.new.pass
          c.match-take.pass
          (serves_remove c.args.pass.now.sizes.quantum c.args.steps.now c.cut.new.steps took.new.steps was.running place was.places.items
          cut
          w.in-Some.object c.take.new.self c.args.pass.now c.cut.new.pass took.new.pass is_one (c.cut.ensures.serves was.running) apart
          (read ∙ w.in-Some.is) c.take.ensures.after took.ensures.pass took.ensures.others took.ensures.fewer counted took.ensures.age)
          w.steps-is w.pass-is (ap (λ s. s.running - 1) c.cut.ensures.others)
      | in_default w ↦
          let there = stood was.places.items was.free.items was.lists.items (running_of was.changes) was.running table c.args.spot
          c.requires.spot in
          absurd (w.in_default.not-Some _ (sym read ∙ ap (λ (p : Places). object_at p place) c.cut.ensures.places ∙ there))
    ]
