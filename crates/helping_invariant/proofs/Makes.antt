-- the steps that announce a transfer and that install a state
use Rattle.std.proofs.Common.{◌≡◌, ℕ, ◌+◌, ◌<◌, ◌≤◌, Bool, refl}
use Rattle.word_layout.specs.Sizes.{Sizes}
use Rattle.word_layout.specs.Packing.{FitsWish}
use Rattle.word_layout.specs.declared.name.WordName.TheVariants.{Announcement}
use Rattle.transfer_machine.specs.Loads.{loaded_tag}
use Rattle.transfer_machine.specs.Machine.{installed, own_announcement, met_at}
use Rattle.transfer_machine.specs.States.{StackState}
use Rattle.transfer_machine.specs.declared.stage.NextStep.TheVariants.{Announce, Try}
use Rattle.transfer_machine.specs.declared.stage.TryStep.TheVariants.{ExchangeState}
use Rattle.transfer_invariant.specs.Memory.{Words, Views, States, Moved, state_tag}
use Rattle.transfer_invariant.specs.Records.{TagsBelow}
use Rattle.transfer_invariant.proofs.Changes.{RecordsStay, StateInstalled}
use Rattle.transfer_invariant.proofs.Steps.{try_has}
use Rattle.helping_invariant.specs.Parts.{AppliedRises}
use Rattle.helping_invariant.specs.Holds.{HelpingHolds}
use Rattle.helping_invariant.proofs.Changes.{AnnouncementsStay, AnnouncementStored, StatesGrow, AppliesHeard}
use Rattle.helping_invariant.proofs.Stable.{stay_counts, stay_tries, stay_announced, stay_hears, stay_settled}
use Rattle.helping_invariant.proofs.Grown.{grow_counts, grow_announced, grow_tries, grow_settled, grow_hears}
use Rattle.helping_invariant.proofs.Own.{Pends, pends_announced, pends_settled}
use Rattle.helping_invariant.proofs.Own.{announced_own, announced_tries, announced_settled, installed_tries}
use Rattle.helping_invariant.proofs.Between.{hears_none, heard_on, heard_announced}
use Rattle.helping_invariant.proofs.Moves.{assemble, LoadedPast}
use Rattle.helping_invariant.proofs.Turns.{heard_in_try}

-- a transfer is announced
pub view_announces : (sizes : Sizes) (m n : Words) (views after : Views) (states : States) (i : ℕ) → i < sizes.processes
    → HelpingHolds sizes m views states → LoadedPast sizes m views → TagsBelow sizes n → (views i).next ≡ Announce
    → FitsWish (views i).wish → RecordsStay sizes m n → AnnouncementStored sizes m n i (own_announcement (views i))
    → Moved i (met_at sizes (views i) (m (Announcement i)) Announce) views after → HelpingHolds sizes n after states
view_announces sizes m n views after states i li h past low e fits s a moved =
    let v = views i in
    let x = met_at sizes v (m (Announcement i)) Announce in
    let counts : AppliedRises sizes n states = stay_counts sizes m n states h.counts s.state in
    let idle : (states (state_tag n)).applied i ≡ v.age = rw s.state ((h.announced i li).idle (rw e refl)) in
    assemble sizes n views after states i x moved (record {
      counts = counts;
      announced = announced_own sizes m n states i v (h.announced i li) e fits s.state a;
      tries = announced_tries n states i v;
      settled = announced_settled sizes n states i v li low counts idle;
      others_announced = λ o lo ne. stay_announced m n states o (views o) (h.announced o lo) s.state (a.elsewhere o lo ne);
      others_tries = λ o lo ne. stay_tries m n states o (views o) (h.tries o lo) s.state;
      others_settled = λ o lo ne. stay_settled sizes m n states o (views o) lo (h.settled o lo) s;
      from = λ o lo ne. hears_none sizes.processes n states o x (views o) refl;
      into = λ b lb ne. heard_announced sizes m n states i (own_announcement v) (views b) v li h.counts
          (λ t. past b lb (try_has (views b).next t)) (rw (h.announced b lb).number ne) (h.announced i li) (h.hears b i lb li) e s.state a;
      self = hears_none sizes.processes n states i x x refl;
      rest = λ b o lb lo nb no.
          stay_hears sizes.processes m n states o (views b) (views o) (h.hears b o lb lo) s.state (a.elsewhere o lo no);
    })

-- a state is installed, by a view that loaded the present one
pub view_installs : (sizes : Sizes) (m n : Words) (views after : Views) (states later : States) (next : StackState) (i : ℕ) (second : Bool)
    → i < sizes.processes → HelpingHolds sizes m views states → LoadedPast sizes m views
    → ((o : ℕ) → o < sizes.processes → (views o).installed ≤ state_tag m) → TagsBelow sizes m
    → (views i).next ≡ Try second ExchangeState → loaded_tag (views i).loaded ≡ state_tag m
    → StateInstalled sizes m n (state_tag m + 1) (views i).next_record → AnnouncementsStay sizes m n → StatesGrow m n states later next
    → AppliesHeard sizes.processes (states (state_tag m)) next (views i) → Moved i (installed (views i)) views after
    → HelpingHolds sizes n after later
view_installs sizes m n views after states later next i second li h past made low e now s a g applies moved =
    let v = views i in
    let x = installed v in
    let announced = λ (o : ℕ) (lo : o < sizes.processes). grow_announced sizes.processes m n states later next o second v (views o) lo
    (h.announced o lo) (h.hears i o li lo) e now (a.each o lo) g applies in
    let settled = λ (o : ℕ) (lo : o < sizes.processes). grow_settled sizes m n states later next o v.next_record second v (views o) lo low
    h.counts (h.announced o lo) (h.settled o lo) (h.hears i o li lo) e now s g applies in
    let hears = λ (b o : ℕ) (lb : b < sizes.processes) (lo : o < sizes.processes). grow_hears sizes.processes m n states later next o
    (views b) (views o) (past b lb) (h.hears b o lb lo) (a.each o lo) g in
    let pends : Pends v x = record { was = rw e refl; pends = refl; number = refl; age = refl; wish = refl; room = refl } in
    assemble sizes n views after later i x moved (record {
      counts = grow_counts sizes m n states later next v h.counts g applies;
      announced = pends_announced n later i v x (announced i li) pends;
      tries = installed_tries sizes.processes m n states later next i second v li (h.announced i li) (h.tries i li) (h.hears i i li li)
          e now g applies;
      settled = pends_settled sizes n later i v x (settled i li) pends;
      others_announced = λ o lo ne. announced o lo;
      others_tries = λ o lo ne. grow_tries sizes.processes m n states later next o second v (views o) lo (h.announced o lo) (h.tries o lo)
          (h.hears i o li lo) e now (past o lo) (made o lo) g applies;
      others_settled = λ o lo ne. settled o lo;
      from = λ o lo ne. hears_none sizes.processes n later o x (views o) refl;
      into = λ b lb ne. heard_on sizes.processes n later i (views b) v x (hears b i lb li) (heard_in_try v x (rw e refl) refl refl);
      self = hears_none sizes.processes n later i x x refl;
      rest = λ b o lb lo nb no. hears b o lb lo;
    })
