-- the store of the own announcement is the machine's next step
use Rattle.std.proofs.Common.{◌≡◌, ℕ, ◌+◌, ◌<◌, ◌≤◌, refl, sym, ap, ◌∙◌, subst, arith}
use Rattle.word_rule.specs.Moves.{Keeps, Learned, replaced_by}
use Rattle.word_layout.specs.Sizes.{Sizes}
use Rattle.word_layout.specs.Names.{place, table_words}
use Rattle.word_layout.specs.Packing.{tag_limit, FitsWish}
use Rattle.word_layout.specs.declared.announced.Wish.{Wish}
use Rattle.word_layout.specs.declared.name.WordName.TheVariants.{Announcement}
use Rattle.word_layout.proofs.Placed.{place_below}
use Rattle.transfer_machine.specs.Machine.{action_at, action_of, met_at, met_of, CanActAt}
use Rattle.transfer_machine.specs.declared.action.Action.TheVariants.{Store}
use Rattle.transfer_machine.specs.declared.transfer.TransferView.{TransferView}
use Rattle.interleaving_core.specs.Steps.{next_action}
use Rattle.pool_table.specs.declared.about.About.{About}
use Rattle.pool_table.specs.Rule.{Holds}
use Rattle.pool_table.specs.Turns.{turning, turned}
use Rattle.pool_table.specs.Views.{SeatView}
use Rattle.pool_table.specs.Steps.{CanStep, Stepped}
use Rattle.pool_table.specs.Transfers.{Agrees, transfer_about}
use Rattle.pool_table.proofs.Places.{keeps_at, tells_at}
use Rattle.pool_table.proofs.Transfers.{due_there, transfer_can_act, transfer_acts_next, transfer_steps}
use Rattle.announce.specs.Stored.{IsToAnnounce, Announces, HasAnnounced, announcement}

own_agrees : (a : About) (v : SeatView) (process number : ℕ) (wish : Wish) → Announces a v process number wish
    → Agrees a v (transfer_about a v)
own_agrees a v process number wish s = record { same = refl; moves = s.moves }

announces_action : (sizes : Sizes) (t : TransferView) (process number : ℕ) (wish : Wish) → IsToAnnounce t process number wish
    → Store (Announcement process) (announcement number wish) ≡ action_of sizes t
announces_action sizes t process number wish d =
    ap (λ p. Store (Announcement p) (announcement number wish)) (sym d.own)
    ∙ (ap (λ n. Store (Announcement t.number) (announcement n wish)) (sym d.counted)
    ∙ (ap (λ w. Store (Announcement t.number) (announcement (t.age + 1) w)) (sym d.wished) ∙ sym (ap (action_at sizes t) d.next)))

announce_is_next : (a : About) (v : SeatView) (process number word : ℕ) (wish : Wish) → Announces a v process number wish
    → word ≡ announcement number wish → Store (Announcement process) word ≡ next_action v.sizes (turning a v.mind.view)
announce_is_next a v process number word wish s e =
    let t = transfer_about a v in
    transfer_acts_next v.sizes a v t (Store (Announcement process) word) (own_agrees a v process number wish s)
    (ap (Store (Announcement process)) e ∙ announces_action v.sizes t process number wish s.begun)

-- the number and the wish fit a word, and the process is one of the shape's
pub record AnnouncementFits (sizes : Sizes) (process number : ℕ) (wish : Wish) : Type 0 where
  pub number_fits : number < tag_limit
  pub wish_fits : FitsWish wish
  pub within : 1 + process < table_words sizes
  pub few : process < 32

-- the number, the wish and the process of an announcement that is due are in range
pub announcement_fits : (a : About) (v : SeatView) (process number : ℕ) (wish : Wish) → CanStep v.sizes a v
    → Announces a v process number wish → AnnouncementFits v.sizes process number wish
unfolding place
announcement_fits a v process number wish c s =
    let t = transfer_about a v in
    let can = subst (CanActAt v.sizes t) s.begun.next (transfer_can_act v.sizes a v t c (own_agrees a v process number wish s)) in
    let (low, young, fits) = can in
    let shape = (due_there v.sizes a v c).due.table.shape in
    let mine : process < v.sizes.processes = subst (λ p. p < v.sizes.processes) s.begun.own low in
    let counted = s.begun.counted in
    let few = shape.few_processes in
    record {
      number_fits = omega (arith, young, counted);
      wish_fits = subst FitsWish s.begun.wished fits;
      within = place_below v.sizes (Announcement process) mine;
      few = omega (arith, mine, few);
    }

-- the place of an announcement
announcement_placed : (sizes : Sizes) (process : ℕ) → 1 + process ≡ place sizes (Announcement process)
unfolding place
announcement_placed sizes process = refl

-- the store of the due announcement, at the place of its process, keeps the rule
pub announce_keeps : (a : About) (number_of_seat : ℕ) (v : SeatView) (process number word : ℕ) (wish : Wish) → CanStep v.sizes a v
    → Announces a v process number wish → word ≡ announcement number wish
    → Keeps Holds number_of_seat v (1 + process) (replaced_by word) (turned a)
announce_keeps a number_of_seat v process number word wish c s e =
    keeps_at v.sizes a number_of_seat (1 + process) v (Store (Announcement process) word) (announcement_placed v.sizes process) c
    (announce_is_next a v process number word wish s e)

-- what the store tells
pub announce_tells : (a : About) (number_of_seat : ℕ) (v x : SeatView) (process number word met : ℕ) (wish : Wish) → CanStep v.sizes a v
    → Announces a v process number wish → word ≡ announcement number wish
    → Learned Holds (turned a) number_of_seat (1 + process) (replaced_by word) v met x → HasAnnounced a v number wish x
announce_tells a number_of_seat v x process number word met wish c s e learned =
    let t = transfer_about a v in
    let stored = announcement number wish in
    let tells : Stepped a v word x = tells_at v.sizes a number_of_seat (1 + process) v x (Store (Announcement process) word) met
    (announcement_placed v.sizes process) c (announce_is_next a v process number word wish s e) learned in
    let stepped : Stepped a v stored x = subst (λ w. Stepped a v w x) e tells in
    let mirrors = transfer_steps v.sizes a v x t (met_of v.sizes t stored) stored c (own_agrees a v process number wish s) stepped refl in
    record {
      stepped = stepped;
      aged = ap (λ (u : TransferView). u.age) (mirrors ∙ ap (met_at v.sizes t stored) s.begun.next) ∙ s.begun.counted;
    }
