-- the reading of all announcements: a word is that of the announcement that is read from it, and its process is one of the shape's
use Rattle.std.proofs.Common.{◌≡◌, ℕ, zero, suc, ◌<◌, ◌≤◌, refl, sym, ap, ◌∙◌, subst, arith}
use Rattle.word_layout.specs.Sizes.{Sizes}
use Rattle.word_layout.specs.Packing.{tagged, tag_of, value_of, wish_code, wish_of, announced_word, announced_of}
use Rattle.word_layout.specs.declared.announced.Announced.{Announced}
use Rattle.word_layout.specs.declared.name.WordName.TheVariants.{Announcement}
use Rattle.transfer_machine.specs.Machine.{CanActAt}
use Rattle.transfer_machine.specs.declared.action.Action.TheVariants.{Load}
use Rattle.interleaving_core.specs.Steps.{next_action}
use Rattle.pool_table.specs.declared.about.About.{About}
use Rattle.pool_table.specs.Turns.{turning}
use Rattle.pool_table.specs.Views.{SeatView}
use Rattle.pool_table.specs.Steps.{CanStep, Stepped}
use Rattle.pool_table.specs.Transfers.{transfer_about}
use Rattle.pool_table.proofs.Transfers.{due_there, transfer_can_act}
use Rattle.announce.specs.Heard.{LoadsAnnouncement, IsPresentWhile}
use Rattle.announce.specs.Reading.{Reading, CanHear, HasHeard, heard}
use Rattle.announce.proofs.Hearing.{load_is_next, heard_now_present}

code_of_wish : (code : ℕ) → wish_code (wish_of code) ≡ code
code_of_wish zero = refl
code_of_wish (suc head) = omega arith

word_is_announced : (word : ℕ) → announced_word (announced_of word) ≡ word
unfolding tagged tag_of value_of
word_is_announced word = let code = code_of_wish (value_of word) in rw code (omega arith)

-- there are few processes
hears_few : (sizes : Sizes) (a : About) (v : SeatView) (process : ℕ) → CanStep sizes a v → LoadsAnnouncement a v process → process < 32
hears_few sizes a v process c l =
    let t = transfer_about a v in
    let low : process < sizes.processes =
    subst (CanActAt sizes t) l.next (transfer_can_act sizes a v t c (record { same = refl; moves = l.moves })) in
    let few = (due_there sizes a v c).due.table.shape.few_processes in
    let same = c.shape in
    omega (arith, low, subst (λ (z : Sizes). z.processes ≤ 32) same few)

has_heard : (a : About) (v x : SeatView) (r : Reading) (word : ℕ) (announced : Announced) → announced ≡ announced_of word
    → Stepped a v word x → IsPresentWhile x r.process word → HasHeard a v r x (heard r) announced
has_heard a v x r word announced e s present =
    let same : word ≡ announced_word announced = sym (ap announced_word e ∙ word_is_announced word) in
    record {
      stepped = subst (λ w. Stepped a v w x) same s;
      heard = refl;
      present = subst (IsPresentWhile x r.process) same present;
    }

-- the same of a reader's fields, before and after
pub load_seen : (a b : About) (v : SeatView) (r old : Reading) → r ≡ old → b ≡ a → CanHear a v old
    → Load (Announcement r.process) ≡ next_action r.sizes (turning b v.mind.view)
load_seen a b v r old e same hears =
    subst (λ z. Load (Announcement r.process) ≡ next_action r.sizes (turning z v.mind.view)) (sym same)
    (load_is_next r.sizes a v r.process (subst (CanHear a v) (sym e) hears))

-- a reader that may hear next is at one of 32 processes
pub few_seen : (a : About) (v : SeatView) (r old : Reading) → r ≡ old → CanStep old.sizes a v → CanHear a v old → r.process < 32
few_seen a v r old e can hears = subst (λ (o : Reading). o.process < 32) (sym e) (hears_few old.sizes a v old.process can hears)

-- after the load it has heard that announcement, which is the present one while it pends
pub heard_seen : (a b : About) (v x : SeatView) (r old s : Reading) (word : ℕ) (announced : Announced) → r ≡ old → b ≡ a
    → CanStep old.sizes a v → CanHear a v old → announced ≡ announced_of word → Stepped b v word x → s ≡ heard r
    → HasHeard a v old x s announced
heard_seen a b v x r old s word announced e same can hears read stepped after =
    let met = subst (λ z. Stepped z v word x) same stepped in
    let can_so = subst (λ (o : Reading). CanStep o.sizes a v) (sym e) can in
    let present = heard_now_present r.sizes a v x r.process word can_so (subst (CanHear a v) (sym e) hears) met in
    subst (λ o. HasHeard a v o x s announced) e
    (subst (λ z. HasHeard a v r x z announced) (sym after) (has_heard a v x r word announced read met present))
