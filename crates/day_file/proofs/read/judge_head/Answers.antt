-- Each return is one law: the tests before it held, and its own did not.
use mathlib.Core.Path.{sym, ◌∙◌}
use Rattle.day_file.proofs.ReadLaws.{head-short, head-length, head-version, head-counts, head_body, head-good}
use Rattle.day_file.proofs.read.judge_head.Goals as goal

pub returns-then-file-lt11 : goal.returns-then-file-lt11
returns-then-file-lt11 c =
    head-short _ c.if-file-lt11.true

pub returns-then-length_in-rest_of : goal.returns-then-length_in-rest_of
returns-then-length_in-rest_of c =
    head-length _ c.if-file-lt11.false c.length_in.ensures (λ e. c.if-length_in-rest_of.true (e ∙ sym c.rest_of.ensures))

pub returns-then-file-ne1 : goal.returns-then-file-ne1
returns-then-file-ne1 c =
    head-version _ c.if-file-lt11.false c.length_in.ensures (c.if-length_in-rest_of.false ∙ c.rest_of.ensures) c.if-file-ne1.true

pub returns-then-not-in_range : goal.returns-then-not-in_range
returns-then-not-in_range c =
    head-counts _ c.if-file-lt11.false c.length_in.ensures (c.if-length_in-rest_of.false ∙ c.rest_of.ensures) c.if-file-ne1.false c.counts_in-counts.ensures c.in_range.ensures (c.if-not-in_range.true)

pub returns-then-places-file : goal.returns-then-places-file
returns-then-places-file c =
    head_body _ c.if-file-lt11.false c.length_in.ensures (c.if-length_in-rest_of.false ∙ c.rest_of.ensures) c.if-file-ne1.false c.counts_in-counts.ensures c.in_range.ensures (c.if-not-in_range.false) c.places.ensures c.if-places-file.true

pub returns : goal.returns
returns c =
    head-good _ c.if-file-lt11.false c.length_in.ensures (c.if-length_in-rest_of.false ∙ c.rest_of.ensures) c.if-file-ne1.false c.counts_in-counts.ensures c.in_range.ensures (c.if-not-in_range.false) c.places.ensures c.if-places-file.false
