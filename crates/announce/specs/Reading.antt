-- the reading of all announcements
use Rattle.std.specs.Prelude.{◌≡◌, ℕ, ◌+◌}
use Rattle.word_layout.specs.Sizes.{Sizes}
use Rattle.word_layout.specs.Packing.{announced_word}
use Rattle.word_layout.specs.declared.announced.Announced.{Announced}
use Rattle.pool_table.specs.declared.about.About.{About}
use Rattle.pool_table.specs.Views.{SeatView}
use Rattle.pool_table.specs.Steps.{Stepped}
use Rattle.announce.specs.Heard.{LoadsAnnouncement, IsPresentWhile}

-- what clauses see of a reader: the shape's numbers, and of how many processes it loaded the announcement since it was begun
pub record Reading : Type 0 where
  pub sizes : Sizes
  pub process : ℕ

-- nothing is loaded
abbrev pub begun : Reading → Reading
begun r = record r { process = 0 }

-- one announcement more is loaded
abbrev pub heard : Reading → Reading
heard r = record r { process = r.process + 1 }

-- a process is to load the reader's next announcement
abbrev pub CanHear : About → SeatView → Reading → Type 0
CanHear about v r = LoadsAnnouncement about v r.process

-- the reader loaded its next announcement, which is this one; where it is pending, it is the present one while the loaded state is
pub record HasHeard (about : About) (v : SeatView) (r : Reading) (x : SeatView) (s : Reading) (announced : Announced) : Type 0 where
  pub stepped : Stepped about v (announced_word announced) x
  pub heard : s ≡ heard r
  pub present : IsPresentWhile x r.process (announced_word announced)
