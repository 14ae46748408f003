-- Bytes that are taken piece by piece.
use Rattle.std.proofs.Common.{◌≡◌, ℕ, ◌+◌, ◌<◌, ◌≤◌, List, [], ◌∷◌, ◌++◌, length, map, Some, None, refl, ap, sym, ◌∙◌, append_assoc}
use Rattle.std.proofs.Common.{append-nil, arith}
use Rattle.std.specs.Prelude.{Option, option_map, Result, Err, sum}
use Rattle.std.proofs.lemmas.List.{length-append, map-append}
use Rattle.std.proofs.lemmas.List.Sums.{fold-append}
use Rattle.std.proofs.lemmas.List.Elements.{All-nil, All-cons, All-append}
use Rattle.pool_io.specs.Told.{HandsOut}
use Rattle.line_text.specs.declared.fault.TextFault.{TextFault}
use Rattle.line_text.specs.declared.fault.TextFault.TheVariants.{NoMemory}
use Rattle.line_text.specs.Taken.{HasRoom, IsTaken, ReadsOf, Took}

-- one piece after the other is one piece
HandsOut-append : (before between now : Option (List ℕ)) (first second : List ℕ) → HandsOut before between first
    → HandsOut between now second → HandsOut before now (first ++ second)
HandsOut-append before between None first second p q = p ∙ ap (option_map (λ rest. first ++ rest)) q
HandsOut-append before between (Some rest) first second p q =
    p ∙ ap (option_map (λ rest. first ++ rest)) q ∙ ap Some (sym (append_assoc first second rest))

-- one more piece was
pub more_taken : (start before now : Option (List ℕ)) (Had Has : List ℕ → Type 0) (taken : ℕ) (piece : List ℕ)
    → IsTaken start before Had taken → HandsOut before now piece → ((bytes : List ℕ) → Had bytes → Has (bytes ++ piece))
    → IsTaken start now Has (taken + length piece)
more_taken start before now Had Has taken piece so_far handed kept = record {
  bytes = so_far.bytes ++ piece;
  handed = HandsOut-append start before now so_far.bytes piece so_far.handed handed;
  kept = kept so_far.bytes so_far.kept;
  count = omega (arith, so_far.count, length-append so_far.bytes piece);
}

-- there is room for another piece behind few bytes
pub room_for : (start now : Option (List ℕ)) (Has : List ℕ → Type 0) (taken more : ℕ) → IsTaken start now Has taken
    → taken + more ≤ 4294967296 → HasRoom Has more
room_for start now Has taken more so_far few = record {
  bytes = so_far.bytes;
  kept = so_far.kept;
  few = omega (arith, so_far.count, few);
}

sum-push : (counts : List ℕ) (count : ℕ) → sum (counts ++ count ∷ []) ≡ sum counts + count
sum-push counts count = rw (fold-append ◌+◌ 0 counts (count ∷ [])) refl

-- one more read gave some bytes
pub took_more : (before now later : List (Option ℕ)) (bytes : ℕ) → Took before now bytes [] → (count : ℕ) → 0 < count
    → later ≡ now ++ Some count ∷ [] → Took before later (bytes + count) []
took_more before now later bytes took count some is = record {
  counts = took.counts ++ count ∷ [];
  some = All-append (λ n. 0 < n) took.counts (count ∷ []) took.some (All-cons (λ n. 0 < n) count [] some (All-nil (λ n. 0 < n)));
  total = ap (λ n. n + count) took.total ∙ sym (sum-push took.counts count);
  reads =
      is ∙ ap (λ reads. reads ++ Some count ∷ []) (took.reads ∙ append-nil (before ++ map Some took.counts))
      ∙ append_assoc before (map Some took.counts) (Some count ∷ [])
      ∙ ap (λ gave. before ++ gave) (sym (map-append Some took.counts (count ∷ [])))
      ∙ sym (append-nil (before ++ map Some (took.counts ++ count ∷ [])));
}

-- no read was made
pub took_none : (reads : List (Option ℕ)) → Took reads reads 0 []
took_none reads = record {
  counts = [];
  some = All-nil (λ n. 0 < n);
  total = refl;
  reads = sym (append-nil (reads ++ []) ∙ append-nil reads);
}

-- the reads of a call that ran out of memory behind some bytes
pub out_of_memory : (limit : ℕ) (before now : List (Option ℕ)) (bytes : ℕ) (result : Result ℕ TextFault) → bytes ≤ limit + 1
    → Took before now bytes [] → result ≡ Err NoMemory → ReadsOf limit before now result
out_of_memory limit before now bytes result within took is = rw is (record { bytes = bytes; within = within; took = took })
