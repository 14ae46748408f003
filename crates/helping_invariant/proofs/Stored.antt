-- what the actions of the views do to announcements
use Rattle.std.proofs.Common.{◌≡◌, ◌≢◌, ℕ, ◌<◌, inl, inr}
use Rattle.std.specs.Prelude.{◌⊎◌}
use Rattle.std.proofs.lemmas.Bool.{cases_eq}
use Rattle.word_layout.specs.Sizes.{Sizes}
use Rattle.word_layout.specs.declared.name.WordName.{WordName}
use Rattle.word_layout.specs.declared.name.WordName.TheVariants.{State, Announcement, RecordWord, Slot, Next, Data}
use Rattle.transfer_machine.specs.Words.{name_of}
use Rattle.transfer_machine.specs.declared.action.Action.{Action}
use Rattle.transfer_machine.specs.declared.action.Action.TheVariants.{Load, Store}
use Rattle.transfer_invariant.specs.Memory.{Words, Acted}
use Rattle.helping_invariant.proofs.Changes.{AnnouncementsStay, AnnouncementStored}

-- a name is that announcement or it isn't
is_or_not_announcement : (o : ℕ) (x : WordName) → (Announcement o ≡ x) ⊎ (Announcement o ≢ x)
is_or_not_announcement o State = inr (λ e. cc)
is_or_not_announcement o (Announcement process) = elim (cases_eq o process) [ inl e ↦ inl cc | inr ne ↦ inr (λ e. ne cc) ]
is_or_not_announcement o (RecordWord row index) = inr (λ e. cc)
is_or_not_announcement o (Slot slot) = inr (λ e. cc)
is_or_not_announcement o (Next block) = inr (λ e. cc)
is_or_not_announcement o (Data block index) = inr (λ e. cc)

-- a load leaves all announcements
loaded_stays : (sizes : Sizes) (name : WordName) (m n : Words) (o : ℕ) → Acted sizes (Load name) m n → o < sizes.processes
    → (Announcement o ≡ name) ⊎ (Announcement o ≢ name) → n (Announcement o) ≡ m (Announcement o)
loaded_stays sizes name m n o a lo (inl e) = rw e a.here
loaded_stays sizes name m n o a lo (inr ne) = a.elsewhere (Announcement o) lo ne

-- so a load changes no announcement
pub loads_leave : (sizes : Sizes) (name : WordName) (m n : Words) → Acted sizes (Load name) m n → AnnouncementsStay sizes m n
loads_leave sizes name m n a = record { each = λ o lo. loaded_stays sizes name m n o a lo (is_or_not_announcement o name) }

-- so does an action on any other word
pub misses_announcements : (sizes : Sizes) (action : Action) (m n : Words) → Acted sizes action m n
    → ((o : ℕ) → Announcement o ≢ name_of action) → AnnouncementsStay sizes m n
misses_announcements sizes action m n a other = record { each = λ o lo. a.elsewhere (Announcement o) lo (other o) }

-- an announcement is stored
pub stores_announcement : (sizes : Sizes) (process word : ℕ) (m n : Words) → Acted sizes (Store (Announcement process) word) m n
    → AnnouncementStored sizes m n process word
stores_announcement sizes process word m n a = record {
  here = a.here;
  elsewhere = λ o lo ne. a.elsewhere (Announcement o) lo (λ e. ne cc);
}
