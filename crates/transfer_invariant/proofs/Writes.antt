-- the steps that store a record word, and that install a state
use Rattle.std.proofs.Common.{◌≡◌, ℕ, ◌+◌, ◌-◌, ◌<◌, ◌≤◌, ◌==◌, Bool, true, false, refl, inl, inr, arith, length}
use Rattle.std.specs.Prelude.{nat_lt}
use Rattle.std.proofs.lemmas.Bool.{cases_eq, false≢true}
use Rattle.std.proofs.lemmas.Bool.Decides.{nat_tests}
use Rattle.word_layout.specs.Sizes.{Sizes}
use Rattle.word_layout.specs.Names.{record_words}
use Rattle.transfer_machine.specs.Loads.{loaded_tag}
use Rattle.transfer_machine.specs.declared.transfer.TransferView.{TransferView}
use Rattle.transfer_machine.specs.declared.stage.NextStep.TheVariants.{Try}
use Rattle.transfer_machine.specs.declared.stage.TryStep.TheVariants.{StoreRecordWord, ExchangeState}
use Rattle.transfer_invariant.specs.Memory.{Words, Views, States, Moved, state_tag, state_value}
use Rattle.transfer_invariant.specs.Progress.{has_loaded, loaded_words}
use Rattle.transfer_invariant.specs.Records.{StateFits, StatesFit, LoadedState, OwnerWentOn}
use Rattle.transfer_invariant.specs.Installing.{drafted_state, with_state, states_with_drafted}
use Rattle.transfer_invariant.specs.Invariant.{RecordsHold}
use Rattle.transfer_invariant.proofs.Stable.{stay_states}
use Rattle.transfer_invariant.proofs.Own.{KeepsLoaded, keeps_loaded, keeps_from, keeps_to}
use Rattle.transfer_machine.specs.Tries.{drafted_value}
use Rattle.transfer_machine.specs.Machine.{after_stored, installed}
use Rattle.transfer_machine.specs.States.{StackState}
use Rattle.transfer_invariant.specs.Laws.{DraftFits}
use Rattle.transfer_invariant.proofs.Changes.{WordStored, StateInstalled}
use Rattle.transfer_invariant.proofs.Stable.{store_current, store_tags, store_own, store_loaded}
use Rattle.transfer_invariant.proofs.Stable.{install_current, install_tags, install_own, install_loaded}
use Rattle.transfer_invariant.proofs.Own.{stores_loaded, store_own_view, install_own_view, install_to}
use Rattle.transfer_invariant.proofs.Steps.{assemble, within}

-- a record word is stored
pub store_step : (sizes : Sizes) (m n : Words) (views after : Views) (states : States) (i : ℕ) (second : Bool) (index : ℕ)
    → i < sizes.processes → RecordsHold sizes m views states → (views i).next ≡ Try second (StoreRecordWord index)
    → WordStored sizes m n (views i).next_record index (loaded_tag (views i).loaded + 1)
    (drafted_value sizes.processes (views i).draft index)
    → Moved i (record (views i) { next = Try second (after_stored sizes index) }) views after → RecordsHold sizes n after states
store_step sizes m n views after states i second index li inv e s moved =
    let v = views i in
    let x = record v { next = Try second (after_stored sizes index) } in
    let tag = loaded_tag v.loaded + 1 in
    let value = drafted_value sizes.processes v.draft index in
    let own = inv.own i li in
    let loaded = inv.loaded i li in
    let low : index < record_words sizes = rw e at own.index in
    let tried : v.installed ≤ loaded_tag v.loaded = own.tried (rw e refl) in
    let past : loaded_tag v.loaded ≤ state_tag m = loaded.past (rw e refl) in
    let below : v.installed < tag = omega arith in
    let g : KeepsLoaded v x = within v x (rw e refl) refl refl refl in
    let loads = λ (w : TransferView) (h : LoadedState sizes m states w) (o : OwnerWentOn w v).
    store_loaded sizes m n states index tag value v w h o below low s in
    assemble sizes n views after states i x moved (record {
      current = store_current sizes m n states i index tag value v own inv.current s;
      states_fit = stay_states sizes m n states inv.states_fit s.state;
      tags_below = store_tags sizes m n v.next_record index tag value inv.tags_below (omega arith) s;
      own = store_own_view sizes m n i second index v li own e low s;
      loaded = keeps_loaded sizes n states v x (loads v loaded (inv.owners i i li li)) g loaded.room
          (λ k lt. loaded.loaded k (rw e (rw (stores_loaded sizes index) at lt)));
      others_own = λ o lo ne. store_own sizes m n i o index tag value v (views o) lo own (inv.own o lo) ne s;
      others_loaded = λ o lo ne. loads (views o) (inv.loaded o lo) (inv.owners o i lo li);
      from = λ o lo ne. keeps_from v x (views o) (inv.owners i o li lo) g;
      into = λ o lo ne. keeps_to v x (views o) (inv.owners o i lo li) g;
      self = keeps_to v x x (keeps_from v x v (inv.owners i i li li) g) g;
      rest = λ a o la lo na no. inv.owners a o la lo;
    })

-- its words are the drafted ones
drafted_words : (processes : ℕ) (s : StackState) (v : TransferView) (k : ℕ)
    → state_value processes (drafted_state s v) k ≡ drafted_value processes v.draft k
unfolding drafted_state state_value
drafted_words processes s v k =
    let over : v.draft.base + v.draft.overlay - v.draft.base ≡ v.draft.overlay = omega arith in
    let place : v.draft.base + (k - 2) - v.draft.base ≡ k - 2 = omega arith in
    let above : nat_lt (v.draft.base + (k - 2)) v.draft.base ≡ false = grind (arith, nat_tests) in
    rw (over, above, place) refl

-- and it fits where the draft does
drafted_fits : (sizes : Sizes) (s : StackState) (v : TransferView) → v.draft.overlay ≤ sizes.processes → DraftFits sizes v.draft
    → StateFits sizes (drafted_state s v)
unfolding drafted_state
drafted_fits sizes s v few fits = record {
  base = omega arith;
  overlay = omega arith;
  within = fits.within;
  heads = λ place ge lt.
      let above : nat_lt place v.draft.base ≡ false = grind (arith, nat_tests) in
      rw above (fits.heads (place - v.draft.base) (omega arith));
}

-- the states with one more
pub with_state_here : (number : ℕ) (new : StackState) (states : States) → with_state number new states number ≡ new
unfolding with_state
with_state_here number new states = let test : (number == number) ≡ true = grind (arith, nat_tests) in rw test refl

-- a new last state leaves all states before it
pub with_state_below : (last : ℕ) (new : StackState) (states : States) (m : ℕ) → m ≤ last → with_state (last + 1) new states m ≡ states m
unfolding with_state
with_state_below last new states m le = let test : (m == last + 1) ≡ false = grind (arith, nat_tests) in rw test refl

-- every state fits, and so does the new one
states_fit_more : (sizes : Sizes) (m n : Words) (states later : States) (new : StackState) → StatesFit sizes m states
    → state_tag n ≡ state_tag m + 1 → later (state_tag m + 1) ≡ new → ((t : ℕ) → t ≤ state_tag m → later t ≡ states t) → StateFits sizes new
    → StatesFit sizes n later
states_fit_more sizes m n states later new h et hit same fits t le = elim (cases_eq t (state_tag m + 1)) [
  | inl e ↦ rw (e, hit) fits
  | inr ne ↦ rw (same t (omega (arith, et))) (h t (omega (arith, et)))
]

-- a state is installed, by a view that loaded the present one
pub install_step : (sizes : Sizes) (m n : Words) (views after : Views) (states : States) (i : ℕ) (second : Bool) → i < sizes.processes
    → RecordsHold sizes m views states → (views i).next ≡ Try second ExchangeState → loaded_tag (views i).loaded ≡ state_tag m
    → (views i).draft.overlay ≤ sizes.processes → DraftFits sizes (views i).draft
    → StateInstalled sizes m n (loaded_tag (views i).loaded + 1) (views i).next_record → Moved i (installed (views i)) views after
    → RecordsHold sizes n after (states_with_drafted m (views i) states)
install_step sizes m n views after states i second li inv e now few fits s moved =
    let v = views i in
    let x = installed v in
    let new = drafted_state (states (state_tag m)) v in
    let later : States = states_with_drafted m v states in
    let own = inv.own i li in
    let here : later (state_tag m + 1) ≡ new = with_state_here (state_tag m + 1) new states in
    let same : (t : ℕ) → t ≤ state_tag m → later t ≡ states t = with_state_below (state_tag m) new states in
    let there : StateInstalled sizes m n (state_tag m + 1) v.next_record = rw now at s in
    assemble sizes n views after later i x moved (record {
      current = install_current sizes m n states later i second v li own e now s
          (λ k lt. rw (now, here) (drafted_words sizes.processes (states (state_tag m)) v k));
      states_fit = states_fit_more sizes m n states later new inv.states_fit there.state here same
          (drafted_fits sizes (states (state_tag m)) v few fits);
      tags_below = install_tags sizes m n v.next_record inv.tags_below there;
      own = install_own_view sizes m n i v own s;
      loaded = nothing_kept sizes n later x (inv.loaded i li).room refl refl;
      others_own = λ o lo ne. install_own sizes m n i o v (views o) lo own (inv.own o lo) ne there;
      others_loaded = λ o lo ne. install_loaded sizes m n states later v.next_record (views o) (inv.loaded o lo) there same;
      from = λ o lo ne. λ h. absurd (false≢true h);
      into = λ o lo ne. install_to sizes m states v (views o) (inv.loaded o lo) now;
      self = λ h. absurd (false≢true h);
      rest = λ a o la lo na no. inv.owners a o la lo;
    })
  where
    nothing_kept : (sizes : Sizes) (n : Words) (states : States) (x : TransferView) → length x.loaded.record_words ≡ 66
        → has_loaded x.next ≡ false → loaded_words (record_words sizes) x.next ≡ 0 → LoadedState sizes n states x
    nothing_kept sizes n states x room h none = grind arith
