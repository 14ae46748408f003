-- what the parts of helping give a transfer
use Rattle.std.proofs.Common.{◌≡◌, ◌≢◌, ℕ, ◌+◌, ◌-◌, ◌%◌, ◌<◌, ◌≤◌, Bool, true, false, refl, sym, ◌∙◌, ap, inl, inr, arith}
use Rattle.std.proofs.lemmas.Bool.{cases_eq}
use Rattle.word_layout.specs.Sizes.{Sizes}
use Rattle.word_layout.specs.Names.{records, record_words}
use Rattle.word_layout.specs.Packing.{tag_of, value_of}
use Rattle.word_layout.specs.declared.name.WordName.TheVariants.{Announcement}
use Rattle.transfer_machine.specs.Loads.{loaded_tag, loaded_record}
use Rattle.transfer_machine.specs.declared.transfer.TransferView.{TransferView}
use Rattle.transfer_machine.specs.declared.stage.NextStep.TheVariants.{LoadReply}
use Rattle.transfer_invariant.specs.Memory.{Words, Views, States, state_tag, word_tag, word_value}
use Rattle.transfer_invariant.specs.Progress.{has_loaded, has_announced}
use Rattle.transfer_invariant.specs.Records.{TagsBelow}
use Rattle.transfer_invariant.specs.Invariant.{Invariant}
use Rattle.transfer_invariant.proofs.Loaded.{value_reply}
use Rattle.helping_invariant.specs.Parts.{heard, AppliedRises, AnnouncementHolds}
use Rattle.helping_invariant.specs.Holds.{HelpingHolds}
use Rattle.helping_invariant.specs.Laws.{PendsNow, InstallsPresent, TransfersAreAnswered, TwoTriesApply, AllButOneApplied, reply_word}
use Rattle.helping_invariant.proofs.Pending.{pends_differs}

-- how many transfers are applied
pub applied_count : AllButOneApplied
applied_count sizes words views states o lo h =
    let a = h.announced o lo in
    record { idle = a.idle; most = a.most; least = a.least }

-- once both its tries are over, a process's transfer is applied
pub applied_after_two_tries : TwoTriesApply
applied_after_two_tries sizes words views states i li h e = (h.tries i li).ended e

-- an announcement that is present and whose parity differs pends
present_pends : (words : Words) (states : States) (o : ℕ) (w v : TransferView) → AnnouncementHolds words states o v
    → heard w o ≡ words (Announcement o) → tag_of (heard w o) % 2 ≢ (states (state_tag words)).applied o % 2 → PendsNow words states o w v
present_pends words states o w v h e ne =
    let applied = (states (state_tag words)).applied o in
    let differs : applied ≢ v.age = λ same. ne (ap (λ k. k % 2) (rw e (h.tag ∙ sym same))) in
    let next = one_less v.age applied h.most h.least differs in
    let announced = pending (has_announced v.next) v.age applied next h.idle in
    record { announced = announced; word = e ∙ h.word announced; next = next }
  where
    one_less : (a b : ℕ) → b ≤ a → a ≤ b + 1 → b ≢ a → b + 1 ≡ a
    one_less a b low high ne = omega arith

    pending : (t : Bool) (a b : ℕ) → b + 1 ≡ a → (t ≡ false → b ≡ a) → t ≡ true
    pending true a b e h = refl
    pending false a b e h = absurd (let same = h refl in omega arith)

-- whoever installs a state applies present announcements only
pub installs_present : InstallsPresent
unfolding state_tag
installs_present sizes words views states i o second li lo h e same pends =
    let v = views i in
    let s = states (state_tag words) in
    let now : loaded_tag v.loaded ≡ state_tag words = sym (ap tag_of same) in
    let parity = h.counts.parities o (state_tag words) lo (omega arith) in
    let differs = pends_differs (heard v o) (s.reply o) (s.applied o) parity pends in
    present_pends words states o v (views o) (h.announced o lo) ((h.hears i o li lo).present (rw e refl) now (rw e lo) differs) differs

-- a reply's word with the number of a state that has applied the transfer, or a higher one, has the present reply
reply_settled : (sizes : Sizes) (words : Words) (states : States) (i row index m : ℕ) → i < sizes.processes → index < record_words sizes
    → AppliedRises sizes words states → TagsBelow sizes words → (states m).applied i ≡ (states (state_tag words)).applied i
    → m ≤ state_tag words → row < records sizes → m ≤ word_tag words row index
    → (word_tag words row index ≡ m → word_value words row index ≡ (states (state_tag words)).reply i)
    → (1 ≤ word_tag words row index → (states (word_tag words row index - 1)).applied i ≡ (states (state_tag words)).applied i
    → word_value words row index ≡ (states (state_tag words)).reply i)
    → word_value words row index ≡ (states (state_tag words)).reply i
reply_settled sizes words states i row index m li low c below applied le lr ge same higher =
    let tag = word_tag words row index in
    elim (cases_eq tag m) [
      | inl e ↦ same e
      | inr ne ↦
          let most = below row index lr low in
          let from = c.rises i m (tag - 1) li (omega arith) (omega arith) in
          let to = c.rises i (tag - 1) (state_tag words) li (omega arith) (omega arith) in
          higher (omega arith) (omega arith)
    ]

-- so the reply that is loaded in the end is the present one
loaded_reply_present : (sizes : Sizes) (words : Words) (views : Views) (states : States) (i : ℕ) → i < sizes.processes
    → Invariant sizes words views states → HelpingHolds sizes words views states → (views i).next ≡ LoadReply
    → value_of (reply_word sizes words (views i)) ≡ (states (state_tag words)).reply i
unfolding word_value
loaded_reply_present sizes words views states i li inv h e =
    let v = views i in
    let m = loaded_tag v.loaded in
    let row = loaded_record v.loaded in
    let index = sizes.processes + 2 + i in
    let l = inv.records.loaded i li in
    let has : has_loaded v.next ≡ true = rw e refl in
    let pends : has_announced v.next ≡ true = rw e refl in
    let ended : (states (state_tag words)).applied i ≡ v.age = (h.tries i li).ended (rw e refl) in
    let final : (states m).applied i ≡ v.age = (h.tries i li).final e in
    let settled = (h.settled i li).in_states pends m (l.past has) final in
    rw (h.announced i li).number (reply_settled sizes words states i row index m li (omega arith) h.counts inv.records.tags_below
    (final ∙ sym ended) (l.past has) (l.row has) (l.tags has index (omega arith))
    (λ t. l.values has index (omega arith) t ∙ value_reply sizes.processes i (states m) ∙ settled)
    (λ some applied. (h.settled i li).in_records pends row (l.row has) some (applied ∙ ended)))

-- the reply that a transfer loads in the end is that of the present state, which has applied it
pub answered : TransfersAreAnswered
answered sizes words views states i li inv h e =
    (loaded_reply_present sizes words views states i li inv h e, (h.tries i li).ended (rw e refl))
