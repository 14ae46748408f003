-- the state that an exchange installs is the next one
use Rattle.std.proofs.Common.{◌≡◌, ◌≢◌, ℕ, zero, suc, ◌+◌, ◌-◌, ◌<◌, ◌≤◌, Bool, true, false, refl, sym, ◌∙◌, ap, inl, inr, arith, get_or}
use Rattle.std.specs.Prelude.{if◌then◌else◌, nat_lt}
use Rattle.std.proofs.lemmas.Bool.{cases_eq, cases_lt}
use Rattle.std.proofs.lemmas.Bool.Decides.{nat_tests}
use Rattle.word_layout.specs.Sizes.{Sizes, IsShape}
use Rattle.word_layout.specs.Packing.{tag_of}
use Rattle.word_layout.specs.declared.name.WordName.TheVariants.{State}
use Rattle.word_layout.specs.declared.announced.Wish.{Wish}
use Rattle.word_layout.specs.declared.announced.Wish.TheVariants.{Take, Give}
use Rattle.transfer_machine.specs.Loads.{loaded_tag}
use Rattle.transfer_machine.specs.NextStates.{IsLoaded, PopsContent, HasContent}
use Rattle.transfer_machine.specs.Drafted.{drafted, SameDraft}
use Rattle.transfer_machine.specs.States.{StackState, put, next_of, with_wish, with_transfer}
use Rattle.transfer_machine.specs.Tries.{is_pending}
use Rattle.transfer_machine.specs.declared.transfer.TransferView.{TransferView}
use Rattle.transfer_machine.specs.declared.stage.NextStep.TheVariants.{Try}
use Rattle.transfer_machine.specs.declared.stage.TryStep.TheVariants.{ExchangeState}
use Rattle.transfer_machine.proofs.NextStates.{put_here, put_away, drafts_are_next_states}
use Rattle.transfer_invariant.specs.Memory.{Words, Views, States, state_tag}
use Rattle.transfer_invariant.specs.Installing.{drafted_state}
use Rattle.transfer_invariant.specs.Invariant.{Invariant}
use Rattle.draft_invariant.specs.Holding.{DraftsHold}
use Rattle.draft_invariant.specs.NextState.{SameState}
use Rattle.draft_invariant.proofs.Steps.{view_is}

-- an announcement changes the reply and the count of its process alone
pub wish_reply_stays : (wish : Wish) (s : StackState) → (with_wish wish s).reply ≡ s.reply
wish_reply_stays Take s = refl
wish_reply_stays (Give head) s = refl

-- an announcement, applied or not, leaves the replies of all other processes
pub either_reply : (b : Bool) (process x o : ℕ) (s t : StackState) → t.reply ≡ put process x s.reply → o ≢ process
    → (if b then t else s).reply o ≡ s.reply o
either_reply true process x o s t e ne = ap (λ f. f o) e ∙ put_away process x o s.reply ne
either_reply false process x o s t e ne = refl

either_applied : (b : Bool) (process x o : ℕ) (s t : StackState) → t.applied ≡ put process x s.applied → o ≢ process
    → (if b then t else s).applied o ≡ s.applied o
either_applied true process x o s t e ne = ap (λ f. f o) e ∙ put_away process x o s.applied ne
either_applied false process x o s t e ne = refl

own_applied : (b : Bool) (process : ℕ) (s t : StackState) → t.applied ≡ put process (s.applied process + 1) s.applied
    → (if b then t else s).applied process ≡ (if b then s.applied process + 1 else s.applied process)
own_applied true process s t e = ap (λ f. f process) e ∙ put_here process (s.applied process + 1) s.applied
own_applied false process s t e = refl

-- of the processes whose announcements are to come, the replies are the old ones
later_reply : (heard : ℕ) (announcements : ℕ → ℕ) (s : StackState) (o : ℕ) → heard ≤ o → (next_of heard announcements s).reply o ≡ s.reply o
unfolding next_of
later_reply zero announcements s o le = refl
later_reply (suc k) announcements s o le =
    let t = next_of k announcements s in
    either_reply (is_pending (announcements k) (t.reply k)) k _ o t (with_transfer k (announcements k) t) refl (λ e. absurd (omega arith))
    ∙ later_reply k announcements s o (omega arith)

later_applied : (heard : ℕ) (announcements : ℕ → ℕ) (s : StackState) (o : ℕ) → heard ≤ o
    → (next_of heard announcements s).applied o ≡ s.applied o
unfolding next_of
later_applied zero announcements s o le = refl
later_applied (suc k) announcements s o le =
    let t = next_of k announcements s in
    either_applied (is_pending (announcements k) (t.reply k)) k _ o t (with_transfer k (announcements k) t) refl (λ e. absurd (omega arith))
    ∙ later_applied k announcements s o (omega arith)

-- of the others, one more transfer is applied where the announcement is pending
pub next_applied : (heard : ℕ) (announcements : ℕ → ℕ) (s : StackState) (o : ℕ) → o < heard
    → (next_of heard announcements s).applied o ≡ (if is_pending (announcements o) (s.reply o) then s.applied o + 1 else s.applied o)
unfolding next_of
next_applied zero announcements s o lt = absurd (omega arith)
next_applied (suc k) announcements s o lt =
    let t = next_of k announcements s in
    elim (cases_eq o k) [
      | inl e ↦
          rw e (own_applied (is_pending (announcements k) (t.reply k)) k t (with_transfer k (announcements k) t) refl
          ∙ rw (later_reply k announcements s k (omega arith), later_applied k announcements s k (omega arith)) refl)
      | inr ne ↦
          either_applied (is_pending (announcements k) (t.reply k)) k _ o t (with_transfer k (announcements k) t) refl ne
          ∙ next_applied k announcements s o (omega arith)
    ]

-- the draft's state
drafted_content : (s t : StackState) (v : TransferView) (processes heard : ℕ) → SameDraft heard v.draft (drafted processes v.loaded heard)
    → HasContent (drafted processes v.loaded heard) s t → (place : ℕ) → place < t.height
    → (drafted_state s v).content place ≡ t.content place
unfolding drafted_state
drafted_content s t v processes heard same h place lt = elim (cases_lt place v.draft.base) [
  | inl low ↦
      (let test : nat_lt place v.draft.base ≡ true = grind (arith, nat_tests) in rw test (sym (h.below place (omega (arith, same.base)))))
  | inr high ↦ (let test : nat_lt place v.draft.base ≡ false = grind (arith, nat_tests) in
      let over : place - v.draft.base < (drafted processes v.loaded heard).overlay = omega (arith, same.base, h.height) in
      let at : (drafted processes v.loaded heard).base + (place - v.draft.base) ≡ place = omega (arith, same.base) in
      rw test (same.heads (place - v.draft.base) over ∙ sym (h.above (place - v.draft.base) over) ∙ ap t.content at))
]

drafted_same : (s : StackState) (v : TransferView) (processes : ℕ) → processes ≤ 32
    → SameDraft processes v.draft (drafted processes v.loaded processes)
    → IsLoaded processes v.loaded s → PopsContent processes v.loaded s
    → SameState processes (drafted_state s v) (next_of processes (λ o. get_or v.loaded.announcements o 0) s)
unfolding drafted_state
drafted_same s v processes few same is pops =
    let t = next_of processes (λ o. get_or v.loaded.announcements o 0) s in
    let both = drafts_are_next_states processes v.loaded s processes few (omega arith) is pops in
    record {
      base = same.base ∙ sym both.0.base;
      height = omega (arith, same.base, same.overlay, both.0.height);
      content = drafted_content s t v processes processes same both.0;
      reply = λ o lt. same.replies o lt ∙ sym (both.1.met o lt);
      applied = λ o lt. sym (next_applied processes (λ o. get_or v.loaded.announcements o 0) s o lt);
    }

-- at the exchange
pub installed_is_next : (sizes : Sizes) (words : Words) (views : Views) (states : States) (i : ℕ) (second : Bool) → IsShape sizes
    → i < sizes.processes
    → Invariant sizes words views states
    → DraftsHold sizes words views states → (views i).next ≡ Try second ExchangeState → words State ≡ (views i).loaded.state
    → SameState sizes.processes (drafted_state (states (state_tag words)) (views i))
    (next_of sizes.processes (λ o. get_or (views i).loaded.announcements o 0) (states (state_tag words)))
unfolding state_tag
installed_is_next sizes words views states i second shape li inv drafts e same =
    let now : loaded_tag (views i).loaded ≡ tag_of (words State) = ap tag_of (sym same) in
    let is = view_is sizes words views states i shape li inv drafts (rw e refl) in
    drafted_same (states (tag_of (words State))) (views i) sizes.processes shape.few_processes (rw e at (drafts.loaded i li)) (rw now at is)
    (λ o lt pop. (drafts.pops i li).popped (rw e refl) now o (rw e lt) pop)
