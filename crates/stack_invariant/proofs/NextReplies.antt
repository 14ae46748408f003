-- the replies of the next state: each process whose announcement pends gets one, any other keeps its own
use Rattle.std.proofs.Common.{◌≡◌, ℕ, zero, suc, ◌≤◌, Bool, true, false, refl, ◌∙◌, inl, inr, arith}
use Rattle.std.specs.Prelude.{if◌then◌else◌}
use Rattle.std.proofs.lemmas.Bool.{cases_eq}
use Rattle.transfer_machine.specs.States.{StackState, with_transfer, next_of}
use Rattle.transfer_machine.specs.Tries.{is_pending}
use Rattle.draft_invariant.proofs.NextState.{either_reply}

-- the reply of a process stays up to its own turn
pub reply_waits : (announcements : ℕ → ℕ) (s : StackState) (k o : ℕ) → k ≤ o → (next_of k announcements s).reply o ≡ s.reply o
unfolding next_of
reply_waits announcements s zero o le = refl
reply_waits announcements s (suc k) o le =
    let t = next_of k announcements s in
    either_reply (is_pending (announcements k) (t.reply k)) k _ o t (with_transfer k (announcements k) t) refl (λ e. absurd (omega arith))
    ∙ reply_waits announcements s k o (omega arith)

-- and a process whose announcement isn't pending keeps it
off_reply : (t : Bool) (k : ℕ) (s u : StackState) → t ≡ false → (if t then u else s).reply k ≡ s.reply k
off_reply true k s u off = grind arith
off_reply false k s u off = refl

-- a process whose announcement isn't pending keeps its reply, however many announcements are applied
pub reply_stays : (announcements : ℕ → ℕ) (s : StackState) (count o : ℕ) → is_pending (announcements o) (s.reply o) ≡ false
    → (next_of count announcements s).reply o ≡ s.reply o
unfolding next_of
reply_stays announcements s zero o off = refl
reply_stays announcements s (suc k) o off = elim (cases_eq o k) [
  | inl e ↦
      let t = next_of k announcements s in
      let word = announcements k in
      let now : is_pending word (t.reply k) ≡ false = rw (reply_waits announcements s k k (omega arith)) (rw e at off) in
      rw e (off_reply (is_pending word (t.reply k)) k t (with_transfer k word t) now ∙ reply_waits announcements s k k (omega arith))
  | inr ne ↦
      let t = next_of k announcements s in
      either_reply (is_pending (announcements k) (t.reply k)) k _ o t (with_transfer k (announcements k) t) refl ne ∙ reply_stays
      announcements s k o off
]
