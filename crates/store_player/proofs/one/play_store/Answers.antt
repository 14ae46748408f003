use Rattle.std.proofs.Common.{◌≡◌, length, take, arith, ap, refl, ◌∙◌}
use Rattle.std.proofs.lemmas.List.{take_all, length-take-le, length-replicate}
use Rattle.store_script.specs.Script.{keys_of}
use Rattle.store_script.proofs.Places.{place_below}
use Rattle.store_player.proofs.Whole.{played_all, so_far_none}
use Rattle.store_player.proofs.one.play_store.Goals as goal

pub loop-place-init : goal.loop-place-init
loop-place-init g c = record {
  played = rw c.requires.empty (so_far_none (keys_of c.args.script.now.commands) c.args.pass.now c.args.script.now.slots
      (g.G.Gate.told c.args.gate.now));
  room = refl;
}

pub play_command-requires : goal.play_command-requires
play_command-requires g c =
    let script = c.args.script.now in
    let place = c.loop-place.place in
    let formed = c.requires.well_formed in
    let e = c.as_slice-command-items.ensures in
    let within = rw e at c.loop-place-test.true in
    let size = length-take-le place script.commands (omega arith) in
    let slots : length c.loop-place.slots ≡ script.slots
    = c.loop-place.auto.slots ∙ ap length c.requires.empty ∙ length-replicate script.slots _ in
    let same = c.loop-place.invariant.played.made.grown.same in
    rw e (record {
      keys = keys_of script.commands;
      done = take place script.commands;
      start = c.args.pass.now;
      answers = take place c.loop-place.answers;
      of_pool = record { table = same.table ∙ c.requires.pool.table; sizes = same.sizes ∙ c.requires.pool.sizes };
      words = c.requires.words;
      first = g.G.Gate.told c.args.gate.now;
      told = g.G.Gate.told c.loop-place.gate;
      young = omega arith;
      placed = formed.each place _ within;
      within = rw (slots, formed.slots) (place_below _ _ (keys_of script.commands) (formed.each place _ within));
      index = formed.indices place _ within;
      played = c.loop-place.invariant.played;
    })

pub returns : goal.returns
returns g c =
    let script = c.args.script.now in
    let e = c.as_slice-command-items.ensures in
    let past = rw e at c.loop-place-test.false in
    let all : take c.loop-place.place c.args.script.now.commands ≡ c.args.script.now.commands
    = take_all c.loop-place.place c.args.script.now.commands past in
    let answered : take c.loop-place.place c.loop-place.answers ≡ c.loop-place.answers =
    take_all c.loop-place.place c.loop-place.answers (omega (arith, past, c.loop-place.invariant.room, c.requires.answers)) in
    played_all c.args.script.now c.args.pass.now c.loop-place.pass c.loop-place.slots c.loop-place.answers
    (g.G.Gate.told c.args.gate.now) (g.G.Gate.told c.loop-place.gate)
    (rw (all, answered) at c.loop-place.invariant.played)
