-- whether an announcement pends, as a comparison of parities, and what the drafted state applies
use Rattle.std.proofs.Common.{◌≡◌, ◌≢◌, ℕ, ◌+◌, ◌%◌, ◌<◌, ◌==◌, Bool, true, false, not, refl, sym, ◌∙◌, inl, inr, arith}
use Rattle.std.specs.Prelude.{if◌then◌else◌}
use Rattle.std.proofs.lemmas.Bool.Decides.{nat_tests}
use Rattle.std.proofs.lemmas.Bool.{cases_eq, false≢true}
use Rattle.word_layout.specs.Sizes.{Sizes}
use Rattle.word_layout.specs.Packing.{tag_of, is_odd_reply}
use Rattle.transfer_machine.specs.Tries.{is_pending}
use Rattle.transfer_machine.specs.NextStates.{IsLoaded}
use Rattle.transfer_machine.specs.States.{StackState}
use Rattle.transfer_machine.specs.declared.transfer.TransferView.{TransferView}
use Rattle.transfer_machine.specs.declared.stage.NextStep.TheVariants.{Try}
use Rattle.transfer_machine.specs.declared.stage.TryStep.TheVariants.{ExchangeState}
use Rattle.transfer_invariant.specs.Installing.{drafted_state}
use Rattle.transfer_invariant.specs.Drafts.{RepliesDrafted}
use Rattle.helping_invariant.specs.Parts.{heard}
use Rattle.helping_invariant.proofs.Changes.{AppliesHeard}

-- the test compares parities
pends_test : (a b : ℕ) → (if a % 2 == 1 then not (b % 2 == 1) else (b % 2 == 1)) ≡ not (a % 2 == b % 2)
pends_test a b = elim (cases_eq (a % 2) 1) [
  | inl e ↦ elim (cases_eq (b % 2) 1) [
    | inl f ↦ rw (e, f) refl
    | inr ng ↦ let f : b % 2 ≡ 0 = omega arith in rw (e, f) refl
  ]
  | inr ne ↦ let e : a % 2 ≡ 0 = omega arith in elim (cases_eq (b % 2) 1) [
    | inl f ↦ rw (e, f) refl
    | inr ng ↦ let f : b % 2 ≡ 0 = omega arith in rw (e, f) refl
  ]
]

-- an announcement pends against the reply to so many transfers where the parities differ
pends_where : (word reply applied : ℕ) → is_odd_reply reply ≡ (applied % 2 == 1)
    → is_pending word reply ≡ not (tag_of word % 2 == applied % 2)
pends_where word reply applied e = rw e (pends_test (tag_of word) applied)

-- where the parities agree, the announcement is not pending
pub pends_not : (word reply applied : ℕ) → is_odd_reply reply ≡ (applied % 2 == 1) → tag_of word % 2 ≡ applied % 2
    → is_pending word reply ≡ false
pends_not word reply applied e same =
    let test : (tag_of word % 2 == applied % 2) ≡ true = grind (arith, nat_tests) in
    rw (pends_where word reply applied e, test) refl

-- where they differ, it is
pub pends_so : (word reply applied : ℕ) → is_odd_reply reply ≡ (applied % 2 == 1) → tag_of word % 2 ≢ applied % 2
    → is_pending word reply ≡ true
pends_so word reply applied e ne =
    let test : (tag_of word % 2 == applied % 2) ≡ false = grind (arith, nat_tests) in
    rw (pends_where word reply applied e, test) refl

-- and where it is pending, they differ
pub pends_differs : (word reply applied : ℕ) → is_odd_reply reply ≡ (applied % 2 == 1) → is_pending word reply ≡ true
    → tag_of word % 2 ≢ applied % 2
pends_differs word reply applied e p = λ same. false≢true (sym (pends_not word reply applied e same) ∙ p)

-- one more transfer changes the parity
next_parity : (a b : ℕ) → a % 2 ≢ b % 2 → (a % 2 == 1) ≡ ((b + 1) % 2 == 1)
next_parity a b ne = let e : a % 2 ≡ (b + 1) % 2 = omega arith in rw e refl

same_parity : (a b : ℕ) → a % 2 ≡ b % 2 → (a % 2 == 1) ≡ (b % 2 == 1)
same_parity a b e = rw e refl

-- the drafted state applies what its view heard
pub drafted_applies : (sizes : Sizes) (s : StackState) (second : Bool) (v : TransferView) → v.next ≡ Try second ExchangeState
    → IsLoaded sizes.processes v.loaded s → RepliesDrafted sizes.processes v
    → ((o : ℕ) → o < sizes.processes → is_odd_reply (s.reply o) ≡ (s.applied o % 2 == 1))
    → AppliesHeard sizes.processes s (drafted_state s v) v
unfolding drafted_state
drafted_applies sizes s second v e loaded drafts parities =
    let waits = λ (o : ℕ) (lo : o < sizes.processes). pends_not (heard v o) (s.reply o) (s.applied o) (parities o lo) in
    let pends = λ (o : ℕ) (lo : o < sizes.processes). pends_so (heard v o) (s.reply o) (s.applied o) (parities o lo) in
    record {
      same_applied = λ o lo same. rw (waits o lo same) refl;
      more_applied = λ o lo ne. rw (pends o lo ne) refl;
      same_reply = λ o lo same. drafts.kept o (rw e lo) (rw (loaded.replies o lo) (waits o lo same)) ∙ loaded.replies o lo;
      parity = λ o lo. drafts.parity o (rw e lo) ∙ elim (cases_eq (tag_of (heard v o) % 2) (s.applied o % 2)) [
        | inl same ↦ rw (waits o lo same) (same_parity (tag_of (heard v o)) (s.applied o) same)
        | inr ne ↦ rw (pends o lo ne) (next_parity (tag_of (heard v o)) (s.applied o) ne)
      ];
    }
