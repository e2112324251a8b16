-- The pools first, then the file; then its counts and its lists.
use Rattle.day_rows.specs.Told.{Told, outcome}
use Rattle.day_rows.proofs.ToldLaws.{passed_on}
use Rattle.day_file.specs.declared.counts.FileCounts.{FileCounts}
use Rattle.day_file.specs.FileDay.{parts}
use Rattle.day_file.proofs.ReadLaws.{read_short, read-refused, read_head, read-good, counts-keep, counts_end}
use mathlib.Core.Path.{refl, sym, ◌∙◌, ap}
use Rattle.day_file.proofs.read.read_day.Goals as goal

pub returns-then-not-pools_full : goal.returns-then-not-pools_full
returns-then-not-pools_full c =
    let s = c in
    read_short _ (parts s.args.mins.now s.args.maxs.now s.args.optional.now s.args.levels.now s.args.preferences.now s.args.rows.now) c.pools_full.ensures (c.if-not-pools_full.true)

pub returns-in_err-judge_file : goal.returns-in_err-judge_file
returns-in_err-judge_file c =
    let s = c in
    let pools = parts s.args.mins.now s.args.maxs.now s.args.optional.now s.args.levels.now s.args.preferences.now s.args.rows.now in
    ap (λ (told : Told FileCounts). outcome told pools) (passed_on _ _ c.from_residual.ensures.1)
    ∙ read-refused _ pools c.pools_full.ensures (c.if-not-pools_full.false) c.in_err-judge_file.ensures refl

pub counts_in-counts-requires : goal.counts_in-counts-requires
counts_in-counts-requires c =
    let s = c in
    (read_head _ (parts s.args.mins.now s.args.maxs.now s.args.optional.now s.args.levels.now s.args.preferences.now s.args.rows.now) c.pools_full.ensures (c.if-not-pools_full.false) c.in_ok-judge_file.ensures refl).long

pub fill_pools-requires : goal.fill_pools-requires
fill_pools-requires c =
    let s = c in
    let h = read_head _ (parts s.args.mins.now s.args.maxs.now s.args.optional.now s.args.levels.now s.args.preferences.now s.args.rows.now) c.pools_full.ensures (c.if-not-pools_full.false) c.in_ok-judge_file.ensures refl in
    record {
      ranges = counts-keep _ h c.counts_in-counts.ensures;
      end = counts_end _ h c.counts_in-counts.ensures;
      full = sym c.pools_full.ensures ∙ c.if-not-pools_full.false;
    }

pub returns : goal.returns
returns c =
    let s = c in
    read-good _ (parts s.args.mins.now s.args.maxs.now s.args.optional.now s.args.levels.now s.args.preferences.now s.args.rows.now) c.pools_full.ensures (c.if-not-pools_full.false) c.in_ok-judge_file.ensures refl c.counts_in-counts.ensures c.fill_pools.ensures
