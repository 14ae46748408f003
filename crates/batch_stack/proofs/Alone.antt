-- a process that makes transfers outside any call: what it may begin at rest, and how it goes on
use Rattle.std.proofs.Common.{◌≡◌, ◌≢◌, ℕ, ◌+◌, ◌*◌, ◌<◌, ◌≤◌, ◌==◌, true, false, [], ◌∷◌, ◌++◌, length, refl, sym, ap, ◌∙◌, subst, arith}
use Rattle.std.specs.Prelude.{◌-◌, nat_lt, take}
use Rattle.std.proofs.lemmas.Bool.Decides.{nat_tests}
use Rattle.word_table.specs.Seats.{Seated}
use Rattle.word_layout.specs.Sizes.{Sizes}
use Rattle.word_layout.specs.Names.{word_at}
use Rattle.word_layout.specs.Packing.{most_age}
use Rattle.word_layout.specs.declared.announced.Wish.{Wish}
use Rattle.word_layout.specs.declared.announced.Wish.TheVariants.{Take, Give}
use Rattle.transfer_machine.specs.Machine.{begun, CanAct}
use Rattle.transfer_machine.specs.Opening.{opening_transfer}
use Rattle.transfer_machine.specs.Stages.{is_rest}
use Rattle.transfer_machine.specs.declared.transfer.TransferView.{TransferView}
use Rattle.pool_machine.specs.Beginning.{alone_begun}
use Rattle.pool_machine.specs.declared.view.ProcessView.{ProcessView}
use Rattle.interleaving_core.specs.Moves.{moving_view, may_wish}
use Rattle.interleaving_core.specs.TransferLaws.{moves_transfer}
use Rattle.interleaving_core.proofs.Joins.{keeps}
use Rattle.pool_table.specs.declared.about.About.TheVariants.{Alone}
use Rattle.pool_table.specs.Minds.{Mind, number_of}
use Rattle.pool_table.specs.Rule.{views_of}
use Rattle.pool_table.specs.Views.{SeatView, seat_of_process}
use Rattle.pool_table.specs.Steps.{Among, CanStep}
use Rattle.pool_table.specs.Transfers.{Agrees}
use Rattle.pool_table.proofs.Transfers.{transfer_can_act, turns_same}
use Rattle.pool_table.proofs.Turns.{seat_of}
use Rattle.batch_stack.specs.declared.progress.Progress.{Progress}
use Rattle.batch_stack.specs.declared.progress.Progress.TheVariants.{Going, Took, Gave}
use Rattle.batch_stack.specs.Alone.{GoesAlone, RestsAlone, Goes, OnlyMoved, Played, Advanced, EndsAtRest}
use Rattle.batch_stack.specs.Alone.{spares_in, spares_about, spares_after}
use Rattle.batch_stack.specs.Running.{Running, MadeStep, GoesOn, wishing}

-- at the opening a process is at rest, with one spare
process_rests : (sizes : Sizes) (process seats : ℕ) → Among (seat_of_process sizes process seats)
    → RestsAlone sizes (seat_of_process sizes process seats) (opening_transfer process)
process_rests sizes process seats among =
    record { of_process = refl; shape = refl; way = refl; same = refl; rest = refl; among = among }

-- at the opening a process is at rest
pub opening_rests : (sizes : Sizes) (process seats : ℕ) (v : SeatView) → v ≡ seat_of_process sizes process seats → Among v
    → RestsAlone sizes v (opening_transfer process)
opening_rests sizes process seats v e among =
    subst (λ w. RestsAlone sizes w (opening_transfer process)) (sym e) (process_rests sizes process seats (subst Among e among))

-- with the second of its batches as its spare
pub opening_spares : (sizes : Sizes) (process seats : ℕ) (v : SeatView) → v ≡ seat_of_process sizes process seats
    → spares_in v ≡ (2 * process + 1) * sizes.length ∷ []
opening_spares sizes process seats v e = ap spares_in e

-- the plan counts the spares
spares_counted : (sizes : Sizes) (v : SeatView) (t : TransferView) → RestsAlone sizes v t
    → length (spares_in v) ≡ v.mind.view.pool.plan.spares
spares_counted sizes v t r =
    let among = r.among in
    let seat = seat_of among.words among.views among.number v among.held among.seated r.of_process in
    let n = number_of v.mind in
    let minds = among.held.minds in
    let (ghosts, holds) = seat.holds.meets in
    let kept = keeps v.sizes (word_at v.sizes among.words) (views_of minds) among.held.history ghosts n seat.holds.shape seat.low holds in
    subst (λ (m : Mind). length m.view.pool.heads ≡ m.view.pool.plan.spares) seat.here kept.heads

-- the view with which a step is made: at rest a transfer begins, and else it stays
at_rest : (sizes : Sizes) (v : SeatView) (t : TransferView) → RestsAlone sizes v t → is_rest v.mind.view.transfer.next ≡ true
at_rest sizes v t r = ap (λ (u : TransferView). is_rest u.next) r.same ∙ ap is_rest r.rest

-- at rest a move begins its transfer
pub turns_at_rest : (wish : Wish) (v : ProcessView) → is_rest v.transfer.next ≡ true → moving_view wish v ≡ alone_begun wish v
turns_at_rest wish v rest = rw rest refl

-- what begins at rest
begins : (sizes : Sizes) (wish : Wish) (v : SeatView) (t : TransferView) → RestsAlone sizes v t → t.age < most_age sizes
    → may_wish wish v.mind.view.pool ≡ true → GoesAlone sizes v (begun wish t)
begins sizes wish v t r young wishes =
    let rests = at_rest sizes v t r in
    let turns = turns_at_rest wish v.mind.view rests in
    let age : v.mind.view.transfer.age < most_age sizes = subst (λ (u : TransferView). u.age < most_age sizes) (sym r.same) young in
    let young_so : nat_lt v.mind.view.transfer.age (most_age sizes) ≡ true = grind (arith, nat_tests) in
    record {
      can = record { of_process = r.of_process; shape = r.shape; may = rw (r.way, rests, young_so, wishes) refl; among = r.among };
      agrees = record {
        same = ap (λ (z : ProcessView). z.transfer) turns ∙ ap (begun wish) r.same;
        moves = subst (λ z. moves_transfer z ≡ true) (sym turns) refl;
      };
    }

-- a process at rest with at most one spare may begin a take
pub take_begins : (sizes : Sizes) (v : SeatView) (t : TransferView) → RestsAlone sizes v t → length (spares_in v) ≤ 1 → t.age < most_age sizes
    → GoesAlone sizes v (begun Take t)
take_begins sizes v t r few young =
    let counted = spares_counted sizes v t r in
    let low : v.mind.view.pool.plan.spares ≤ 1 = subst (λ n. n ≤ 1) counted few in
    begins sizes Take v t r young (grind (arith, nat_tests))

-- one with a spare may begin to give it
pub give_begins : (sizes : Sizes) (v : SeatView) (t : TransferView) (head : ℕ) → RestsAlone sizes v t → spares_in v ≡ head ∷ []
    → t.age < most_age sizes → GoesAlone sizes v (begun (Give head) t)
give_begins sizes v t head r has young =
    let counted = spares_counted sizes v t r in
    let one : v.mind.view.pool.plan.spares ≡ 1 = sym counted ∙ ap length has in
    let same : (head == head) ≡ true = grind (arith, nat_tests) in
    begins sizes (Give head) v t r young (rw (has, one, same) refl)

-- what a take is about leaves the spares
pub take_spares : (sizes : Sizes) (v : SeatView) (t : TransferView) → RestsAlone sizes v t → spares_about (Alone Take) v ≡ spares_in v
take_spares sizes v t r = ap (λ (z : ProcessView). z.pool.heads) (turns_at_rest Take v.mind.view (at_rest sizes v t r))

-- what a give is about is the one spare
pub give_spares : (sizes : Sizes) (v : SeatView) (t : TransferView) (head : ℕ) → RestsAlone sizes v t → spares_in v ≡ head ∷ []
    → spares_about (Alone (Give head)) v ≡ []
give_spares sizes v t head r has =
    ap (λ (z : ProcessView). z.pool.heads) (turns_at_rest (Give head) v.mind.view (at_rest sizes v t r))
    ∙ ap (λ list. take (length list - 1) list) has

-- the same of a transfer by its fields, before and after
pub take_goes : (old new : Running) (v : SeatView) → RestsAlone old.sizes v old.part → length (spares_in v) ≤ 1 → old.part.age < most_age old.sizes
    → new ≡ wishing Take old → GoesAlone new.sizes v new.part
take_goes old new v r few young e =
    subst (λ (n : Running). GoesAlone n.sizes v n.part) (sym e) (take_begins old.sizes v old.part r few young)

-- a process that wishes to give its spare goes on so
pub give_goes : (old new : Running) (v : SeatView) (head : ℕ) → RestsAlone old.sizes v old.part → spares_in v ≡ head ∷ []
    → old.part.age < most_age old.sizes → new ≡ wishing (Give head) old → GoesAlone new.sizes v new.part
give_goes old new v head r has young e =
    subst (λ (n : Running). GoesAlone n.sizes v n.part) (sym e) (give_begins old.sizes v old.part head r has young)

-- a step advances the transfer
going_spares : (sizes : Sizes) (wish : Wish) (x : SeatView) (u : TransferView) → GoesOn sizes (Alone wish) x u
    → x.mind.view.transfer ≡ u → spares_about (Alone u.wish) x ≡ spares_in x
going_spares sizes wish x u goes mirrors =
    let busy : is_rest x.mind.view.transfer.next ≡ false = ap (λ (z : TransferView). is_rest z.next) mirrors ∙ goes.busy in
    ap (λ (z : ProcessView). z.pool.heads) (turns_same u.wish x.mind.view busy)

-- one step of a transfer alone is an advance
pub step_advances : (sizes : Sizes) (v x : SeatView) (t u : TransferView) (answer : Progress)
    → MadeStep sizes (Alone t.wish) v t x u answer → (answer ≡ Going → GoesOn sizes (Alone t.wish) x u)
    → spares_in x ≡ spares_after answer (spares_about (Alone t.wish) v) → (answer ≢ Going → EndsAtRest sizes (Alone t.wish) x u)
    → Advanced sizes v t x u answer
step_advances sizes v x t u answer (word, made) goes spares rests = record {
  goes = λ e. let (can, agrees) = (goes e).goes u.wish in record { can = can; agrees = agrees };
  kept = λ e. going_spares sizes t.wish x u (goes e) made.mirrors
      ∙ (spares ∙ ap (λ k. spares_after k (spares_about (Alone t.wish) v)) e);
  rests = rests;
  spares = λ ends. spares;
}

-- no step does, and more steps do
pub stays_advanced : (sizes : Sizes) (v : SeatView) (t : TransferView) → GoesAlone sizes v t → Advanced sizes v t v t Going
stays_advanced sizes v t goes =
    record { goes = λ e. goes; kept = λ e. refl; rests = λ ends. absurd (ends refl); spares = λ ends. absurd (ends refl) }

-- two advances are one
pub advances_on : (sizes now : Sizes) (v x y : SeatView) (t u w : TransferView) (answer : Progress) → now ≡ sizes
    → Advanced sizes v t x u Going → Advanced now x u y w answer → Advanced sizes v t y w answer
advances_on sizes now v x y t u w answer same first next =
    let second = subst (λ z. Advanced z x u y w answer) same next in
    record {
      goes = second.goes;
      kept = λ e. second.kept e ∙ first.kept refl;
      rests = second.rests;
      spares = λ ends. second.spares ends ∙ ap (spares_after answer) (first.kept refl);
    }

-- an advance that isn't answered goes on
pub going_advanced : (sizes : Sizes) (v x : SeatView) (t u : TransferView) (answer : Progress) → answer ≡ Going
    → Advanced sizes v t x u answer → Advanced sizes v t x u Going
going_advanced sizes v x t u answer e a = subst (Advanced sizes v t x u) e a

-- and it may be gone on with
pub advanced_goes : (sizes now : Sizes) (v x : SeatView) (t u : TransferView) → now ≡ sizes → Advanced sizes v t x u Going
    → GoesAlone now x u
advanced_goes sizes now v x t u same a = subst (λ z. GoesAlone z x u) (sym same) (a.goes refl)

-- so may a running transfer that isn't answered
pub played_goes : (before after : Seated SeatView) (t u : Running) (answer : Progress) → OnlyMoved before t after u
    → Played before t after u answer → answer ≡ Going → Goes after u
played_goes before after t u answer moved played goes =
    subst (λ z. GoesAlone z after.view u.part) (sym moved.1) (played.goes goes)

-- how a process with no spare of its own rests after that
pub gave_rests : (sizes now : Sizes) (v x : SeatView) (t u : TransferView) (answer : Progress) → answer ≡ Gave → now ≡ sizes
    → Advanced now v t x u answer → spares_about (Alone t.wish) v ≡ [] → RestsAlone sizes x u × (spares_in x ≡ [])
gave_rests sizes now v x t u answer e same a none =
    let ends : answer ≢ Going = λ goes. absurd (grind arith) in (
      subst (λ z. RestsAlone z x u) same (a.rests ends),
      a.spares ends ∙ (ap (λ k. spares_after k (spares_about (Alone t.wish) v)) e ∙ none),
    )

-- a take that got a batch leaves its process at rest, with that batch as its spare
pub took_rests : (sizes now : Sizes) (v x : SeatView) (t u : TransferView) (answer : Progress) (head : ℕ) → answer ≡ Took head → now ≡ sizes
    → Advanced now v t x u answer → spares_about (Alone t.wish) v ≡ [] → RestsAlone sizes x u × (spares_in x ≡ head ∷ [])
took_rests sizes now v x t u answer head e same a none =
    let ends : answer ≢ Going = λ goes. absurd (grind arith) in (
      subst (λ z. RestsAlone z x u) same (a.rests ends),
      a.spares ends ∙ (ap (λ k. spares_after k (spares_about (Alone t.wish) v)) e ∙ ap (λ list. list ++ head ∷ []) none),
    )

-- a transfer alone that goes on may make its step
pub alone_can : (sizes : Sizes) (v : SeatView) (t : TransferView) → GoesAlone sizes v t → CanStep sizes (Alone t.wish) v
alone_can sizes v t goes = goes.can

-- and its view is that of its seat
pub alone_agrees : (sizes : Sizes) (v : SeatView) (t : TransferView) → GoesAlone sizes v t → Agrees (Alone t.wish) v t
alone_agrees sizes v t goes = goes.agrees

-- and what it does is in the ranges of its table
pub alone_acts : (sizes : Sizes) (v : SeatView) (t : TransferView) → GoesAlone sizes v t → CanAct sizes t
alone_acts sizes v t goes = transfer_can_act sizes (Alone t.wish) v t goes.can goes.agrees
