-- What opening handles answers, and what they own then.
use Rattle.std.specs.Prelude.{◌≡◌, ℕ, ◌⊎◌, Some, List, length, map}
use Rattle.word_layout.specs.declared.fault.ShapeFault.{ShapeFault}
use Rattle.word_layout.specs.declared.fault.ShapeFault.TheVariants as fault
use Rattle.block_pool.specs.Passing.{Passed}
use Rattle.pool_member.specs.declared.opening.OpenFault.{OpenFault}
use Rattle.pool_member.specs.declared.opening.OpenFault.TheVariants as opening
use Rattle.pool_member.specs.Opening.{HasShape, IsOpenFault}
use Rattle.loskebri_c.specs.declared.handle.LoskebriPass.{LoskebriPass}

-- the status of a shape's fault
abbrev pub shape_status : ShapeFault → ℕ
shape_status fault.NoProcess = 7
shape_status fault.ManyProcesses = 8
shape_status fault.FewBatches = 9
shape_status fault.BadQuantum = 10
shape_status fault.ManyBlocks = 11
shape_status fault.WideBlock = 12

-- the status of a fault of an opening
abbrev pub opening_status : OpenFault → ℕ
opening_status (opening.Shape why) = shape_status why
opening_status opening.NoMemory = 6

-- the handles own these members, in their order
abbrev pub Own : List LoskebriPass → List Passed → Type 0
Own handles members = map (λ handle. handle.member) handles ≡ map Some members

-- the members are put behind the handles, or there was no memory and no handle changed
abbrev pub IsFilled : List Passed → List LoskebriPass → List LoskebriPass → ℕ → Type 0
IsFilled members old new status = ((status ≡ 0) × Own new members) ⊎ ((status ≡ 6) × (new ≡ old))

-- the handles own the members of a new pool, which has a process for each handle and these numbers
pub record OpensAll (batches words quantum : ℕ) (handles : List LoskebriPass) : Type 0 where
  pub members : List Passed
  pub owned : Own handles members
  pub shape : HasShape (length handles) batches words quantum members

-- status 0 with all handles opened; else no handle changed, for a fault that the status tells: the first one of the numbers, or want of
-- memory where they have none
abbrev pub OpenAnswered : ℕ → ℕ → ℕ → List LoskebriPass → List LoskebriPass → ℕ → Type 0
OpenAnswered batches words quantum old new status =
    ((status ≡ 0) × OpensAll batches words quantum new)
    ⊎ ((new ≡ old) × ((why : OpenFault) × (status ≡ opening_status why) × IsOpenFault (length old) batches words quantum why))
