use Rattle.std.proofs.Common.{List, ℕ, [], ◌∙◌, subst, arith}
use Rattle.pool_io.specs.Writes.{Writes}
use Rattle.trace_player.specs.Report.{sums_of}
use Rattle.pool_cli.proofs.Sums.{column_of_sums, line_more, line_whole, name_in-le}
use Rattle.pool_cli.proofs.report.write_line.Goals as goal

pub push_column-requires : goal.push_column-requires
push_column-requires g c =
    let short = name_in-le c.default.result c.columns-columns.result (record { ref_ptr = (0, 0); now = [] }, 0) c.loop-place.place c.columns-columns.ensures (omega arith) in
    omega (arith, short)

pub loop-place-preserved : goal.loop-place-preserved
loop-place-preserved g c =
    let short = name_in-le c.default.result c.columns-columns.result (record { ref_ptr = (0, 0); now = [] }, 0) c.loop-place.place c.columns-columns.ensures (omega arith) in
    record {
      text = line_more c.args.label.now (sums_of c.args.tallies.now) c.loop-place.place _ _ _
          (column_of_sums c.args.tallies.now c.default.result c.columns-columns.result (record { ref_ptr = (0, 0); now = [] }, 0) c.loop-place.place c.sums_of_columns-sums.result c.columns-columns.ensures (omega arith) c.sums_of_columns-sums.ensures)
          c.loop-place.invariant.text c.push_column.ensures.text;
      short = omega (arith, short);
    }

pub returns : goal.returns
returns g c =
    let Text : List ℕ → Type 0 = λ text. Writes g.K.Sink text c.args.out.now c.write_whole.new.out c.write_whole.result in
    subst Text (c.as_bytes.ensures.value ∙ c.as_str.ensures.value ∙ line_whole c.args.label.now (sums_of c.args.tallies.now) c.loop-place.place _ _ (omega arith) c.loop-place.invariant.text c.push_str-3.ensures.bytes) c.write_whole.ensures
