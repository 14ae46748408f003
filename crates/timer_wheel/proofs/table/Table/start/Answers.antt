use Rattle.std.proofs.Common.{◌+◌, ◌++◌, [], ◌∷◌, ap, ◌∙◌, arith}
use Rattle.std.proofs.lemmas.List.Sums.{fold_push}
use Rattle.timer_wheel.specs.declared.changes.Change.{Change}
use Rattle.timer_wheel.specs.declared.changes.Change.TheVariants.{Began}
use Rattle.timer_wheel.specs.Places.{running_after, running_of}
use Rattle.timer_wheel.proofs.Starts.{place_low, put_apart, put_backs, put_last, put_room, put_table, serves_put, serves_start}
use Rattle.timer_wheel.proofs.table.Table.start.Goals as goal

pub append-requires-clause-held : goal.append-requires-clause-held
append-requires-clause-held g c =
    let was = c.args.self.now in
    let put = c.in-Stored.ensures in
    (serves_put was.places.items was.free.items was.lists.items (running_of was.changes) was.running c.requires.table c.args.timer
    c.in-Stored.object c.index-place.result.now c.args.steps.now c.put.new.steps c.args.pass.now.sizes.quantum c.args.pass.now
    c.put.new.pass
    put.put put.entry put.pass put.steps put.age c.requires.held (λ e. c.if-self-len.false (omega (
      arith,
      e,
      c.len.ensures,
      was.places.ok.0,
    ))) c.index-place.ensures c.requires.last
    c.requires.below).holds

pub append-requires-clause-apart : goal.append-requires-clause-apart
append-requires-clause-apart g c =
    let was = c.args.self.now in
    let put = c.in-Stored.ensures in
    put_apart was.places.items was.free.items was.lists.items (running_of was.changes) was.running c.requires.table c.args.timer
    c.in-Stored.object c.index-place.result.now c.args.steps.now c.put.new.steps c.args.pass.now.sizes.quantum c.args.pass.now
    c.put.new.pass
    put.put put.entry put.pass put.steps put.age c.requires.held (λ e. c.if-self-len.false (omega (
      arith,
      e,
      c.len.ensures,
      was.places.ok.0,
    ))) c.index-place.ensures c.requires.last c.requires.below

pub append-requires-clause-last : goal.append-requires-clause-last
append-requires-clause-last g c =
    let was = c.args.self.now in
    let put = c.in-Stored.ensures in
    put_last was.places.items was.free.items was.lists.items (running_of was.changes) was.running c.requires.table c.args.timer
    c.in-Stored.object c.index-place.result.now c.args.steps.now c.put.new.steps c.args.pass.now.sizes.quantum c.args.pass.now
    c.put.new.pass
    put.put put.entry put.pass put.steps put.age c.requires.held (λ e. c.if-self-len.false (omega (
      arith,
      e,
      c.len.ensures,
      was.places.ok.0,
    ))) c.index-place.ensures c.requires.last c.requires.below
    c.list_of-list.result c.list_of-list.ensures

pub append-requires-clause-link : goal.append-requires-clause-link
append-requires-clause-link g c =
    let was = c.args.self.now in
    let put = c.in-Stored.ensures in
    let low = place_low was.places.items was.free.items was.lists.items (running_of was.changes) was.running c.requires.table c.args.timer
    c.in-Stored.object c.index-place.result.now c.args.steps.now c.put.new.steps c.args.pass.now.sizes.quantum c.args.pass.now
    c.put.new.pass
    put.put put.entry put.pass put.steps put.age c.requires.held (λ e. c.if-self-len.false (omega (
      arith,
      e,
      c.len.ensures,
      was.places.ok.0,
    ))) c.index-place.ensures c.requires.last c.requires.below in
    omega (arith, low, c.requires.backs.all)

pub returns-in-Stored-clause-table : goal.returns-in-Stored-clause-table
returns-in-Stored-clause-table g c =
    let was = c.args.self.now in
    let put = c.in-Stored.ensures in
    let others = c.append.ensures.others in
    let timer = c.args.timer in
    let began : Change
    = Began (record { number = timer.number; due = timer.due; payload = timer.payload; place = c.index-place.result.now }) in
    put_table was.places.items was.free.items was.lists.items (running_of was.changes) was.running c.requires.table c.args.timer
    c.in-Stored.object c.index-place.result.now c.args.steps.now c.put.new.steps c.args.pass.now.sizes.quantum c.args.pass.now
    c.put.new.pass
    put.put put.entry put.pass put.steps put.age c.requires.held (λ e. c.if-self-len.false (omega (
      arith,
      e,
      c.len.ensures,
      was.places.ok.0,
    ))) c.index-place.ensures c.requires.last c.requires.below
    c.list_of-list.result c.list_of-list.ensures _ _ _ _ _ c.append.ensures.places c.append.ensures.lists (ap (λ s. s.free.items) others)
    (ap running_of (c.note.ensures ∙ ap (λ s. s.changes ++ began ∷ []) others) ∙ fold_push running_after [] was.changes began)
    (ap (λ s. s.running + 1) others)

pub returns-in-Stored-clause-room : goal.returns-in-Stored-clause-room
returns-in-Stored-clause-room g c =
    let was = c.args.self.now in
    let put = c.in-Stored.ensures in
    let others = c.append.ensures.others in
    let timer = c.args.timer in
    let began : Change
    = Began (record { number = timer.number; due = timer.due; payload = timer.payload; place = c.index-place.result.now }) in
    put_room was.places.items was.free.items was.lists.items (running_of was.changes) was.running c.requires.table c.args.timer
    c.in-Stored.object c.index-place.result.now c.args.steps.now c.put.new.steps c.args.pass.now.sizes.quantum c.args.pass.now
    c.put.new.pass
    put.put put.entry put.pass put.steps put.age c.requires.held (λ e. c.if-self-len.false (omega (
      arith,
      e,
      c.len.ensures,
      was.places.ok.0,
    ))) c.index-place.ensures c.requires.last c.requires.below
    c.list_of-list.result c.list_of-list.ensures _ _ _ _ _ c.append.ensures.places c.append.ensures.lists (ap (λ s. s.free.items) others)
    (ap running_of (c.note.ensures ∙ ap (λ s. s.changes ++ began ∷ []) others) ∙ fold_push running_after [] was.changes began)
    (ap (λ s. s.running + 1) others)

pub returns-in-Stored-clause-backs : goal.returns-in-Stored-clause-backs
returns-in-Stored-clause-backs g c =
    let was = c.args.self.now in
    let put = c.in-Stored.ensures in
    let others = c.append.ensures.others in
    let timer = c.args.timer in
    let began : Change
    = Began (record { number = timer.number; due = timer.due; payload = timer.payload; place = c.index-place.result.now }) in
    put_backs was.places.items was.free.items was.lists.items (running_of was.changes) was.running c.requires.table c.args.timer
    c.in-Stored.object c.index-place.result.now c.args.steps.now c.put.new.steps c.args.pass.now.sizes.quantum c.args.pass.now
    c.put.new.pass
    put.put put.entry put.pass put.steps put.age c.requires.held (λ e. c.if-self-len.false (omega (
      arith,
      e,
      c.len.ensures,
      was.places.ok.0,
    ))) c.index-place.ensures c.requires.last c.requires.below
    c.list_of-list.result c.list_of-list.ensures _ _ _ _ _ c.append.ensures.places c.append.ensures.lists (ap (λ s. s.free.items) others)
    (ap running_of (c.note.ensures ∙ ap (λ s. s.changes ++ began ∷ []) others) ∙ fold_push running_after [] was.changes began)
    (ap (λ s. s.running + 1) others)
    was.backs.items _ c.requires.backs c.append.ensures.backs

pub returns-in-Stored-clause-serves : goal.returns-in-Stored-clause-serves
returns-in-Stored-clause-serves g c =
    let was = c.args.self.now in
    let put = c.in-Stored.ensures in
    serves_start c.args.pass.now.sizes.quantum c.args.steps.now c.put.new.steps c.append.new.steps was.running _ was.places.items _ _
    c.args.pass.now c.put.new.pass c.append.new.pass
    (serves_put was.places.items was.free.items was.lists.items (running_of was.changes) was.running c.requires.table c.args.timer
    c.in-Stored.object c.index-place.result.now c.args.steps.now c.put.new.steps c.args.pass.now.sizes.quantum c.args.pass.now
    c.put.new.pass
    put.put put.entry put.pass put.steps put.age c.requires.held (λ e. c.if-self-len.false (omega (
      arith,
      e,
      c.len.ensures,
      was.places.ok.0,
    ))) c.index-place.ensures c.requires.last
    c.requires.below)
    (c.append.ensures.serves (was.running + 1)) (ap (λ s. s.running + 1) c.append.ensures.others)
