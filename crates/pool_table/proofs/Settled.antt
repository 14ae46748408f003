-- A seat that has taken in others knows of one history, which has the entries of all of them.
use Rattle.std.proofs.Common.{◌≡◌, ℕ, ◌≤◌, true, List, ◌∷◌, sym, subst, arith}
use Rattle.word_layout.specs.Sizes.{Sizes, limits_of}
use Rattle.pool_model.specs.declared.entry.Entry.{Entry}
use Rattle.pool_model.specs.Legal.{IsLegal}
use Rattle.pool_table.specs.Minds.{Mind, number_of, SeesOwn}
use Rattle.pool_table.specs.Rule.{Minds, EachMind, IsSeated, MindsHold}
use Rattle.pool_table.specs.Settled.{FitsIn, SeatsSettle}
use Rattle.pool_table.specs.Steps.{Among}
use Rattle.pool_table.specs.Views.{SeatView}
use Rattle.pool_table.proofs.Numbered.{minds_are_seated}
use Rattle.pool_table.proofs.Seating.{each_mind_becomes}

-- the mind of one of the processes
pub fits_in : (sizes : Sizes) (words : List ℕ) (minds : Minds) (history : List Entry) (seats : ℕ) → seats ≤ sizes.processes
    → MindsHold sizes words minds history → (mind : Mind) → IsSeated seats minds mind → FitsIn history mind
fits_in sizes words minds history seats few h mind is =
    let low = is.0 in
    let sees = subst (λ (z : Mind). SeesOwn history (number_of mind) z.seen) is.1 (h.sees (number_of mind) (omega arith)) in
    record { entries = sym sees.own_seen; begins = sees.beginning }

-- the minds of a seat among words and views of the rule, its own first: whose they are, and that they fit the one history
pub among_seated : (v : SeatView) (among : Among v) → v.of_process ≡ true
    → EachMind (IsSeated among.held.numbered.seats among.held.minds) (v.mind ∷ v.taken)
among_seated v among e =
    let h = among.held in
    minds_are_seated h.sizes h.minds among.views among.number v h.numbered among.seated e

-- each mind of a process's seat has its entries in the one history, and what it has seen begins that
pub among_fits : (v : SeatView) (among : Among v) → v.of_process ≡ true → EachMind (FitsIn among.held.history) (v.mind ∷ v.taken)
among_fits v among e =
    let h = among.held in
    each_mind_becomes (IsSeated h.numbered.seats h.minds) (FitsIn h.history)
    (fits_in h.sizes among.words h.minds h.history h.numbered.seats h.numbered.few h.holds) (v.mind ∷ v.taken) (among_seated v among e)

-- one legal history fits the own mind of a process's seat and all minds that it took in
pub settles : SeatsSettle
settles v among e =
    let h = among.held in
    let fits = among_fits v among e in
    let shape : v.sizes ≡ h.sizes = h.numbered.shaped among.number v among.seated e in
    record {
      history = h.history;
      legal = subst (λ sizes. IsLegal (limits_of sizes) h.history) (sym shape) h.holds.meets.1.entries.legal;
      mine = fits.0;
      taken = fits.1;
    }
