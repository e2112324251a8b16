use Rattle.std.proofs.Common.{[], length, refl, ◌∙◌}
use Rattle.list_nodes.specs.steps.Run.{standing}
use Rattle.list_nodes.proofs.Falls.{to_choice, to_next, next-choice}
use Rattle.list_walk.proofs.CallLaws.{to_open, open_place}
use Rattle.list_walk.proofs.StandLaws.{stood_as, left_as, passed_as}
use Rattle.list_walk.proofs.WalkLaws.{so_far, walked-out, one-turn, walked-full, seen_near_here, seen_far_here, seen_requires, walked-seen, none_open, open_requires, walked_open, take-allowed, taken_requires, leave_allowed, walked-stopped, fewer, walked-last, rest_requires, walked-rest}
use Rattle.list_walk.proofs.walk.+walk_choice_walk_open_walk_place.Goals as goal

pub walk_choice-returns-then-turns-eq0 : goal.walk_choice-returns-then-turns-eq0
walk_choice-returns-then-turns-eq0 t c =
    walked-out _ _ c.requires c.if-turns-eq0.true

pub walk_choice-overflow_sub-turns : goal.walk_choice-overflow_sub-turns
walk_choice-overflow_sub-turns t c =
    one-turn [] [] c.requires c.if-turns-eq0.false

pub walk_choice-shape_of-buffer-then-choice-plan : goal.walk_choice-shape_of-buffer-then-choice-plan
walk_choice-shape_of-buffer-then-choice-plan t c =
    c.list_full.auto.buffer

pub walk_choice-returns-then-choice-plan : goal.walk_choice-returns-then-choice-plan
walk_choice-returns-then-choice-plan t c =
    let p = c.list_full.ensures in
    walked-full _ _ c.requires c.if-turns-eq0.false c.if-choice-plan.true p.2 p.0 p.1 c.goes_on.ensures

pub walk_choice-walk_open-requires : goal.walk_choice-walk_open-requires
walk_choice-walk_open-requires t c =
    let s = c in
    let l = s.requires in
    (to_open t (length s.args.day.now.mins.now) s.args.choice s.decreases, seen_requires s.args.given.now.tables.now s.args.domains.now l c.if-turns-eq0.false c.if-choice-plan.false (seen_near_here _ _ _ _ _ (so_far [] [] l) l.shaped.plan-fits c.near_end.ensures c.if-near_end.true) refl)

pub walk_choice-shape_of-buffer-then-near_end : goal.walk_choice-shape_of-buffer-then-near_end
walk_choice-shape_of-buffer-then-near_end t c =
    c.walk_open.auto.buffer

pub walk_choice-returns-then-near_end : goal.walk_choice-returns-then-near_end
walk_choice-returns-then-near_end t c =
    let l = c.requires in
    walked-seen _ _ l c.if-turns-eq0.false c.if-choice-plan.false (seen_near_here _ _ _ _ _ (so_far [] [] l) l.shaped.plan-fits c.near_end.ensures c.if-near_end.true) refl {after = standing c.walk_open.result c.walk_open.new.turns c.walk_open.new.met c.walk_open.new.buffer} c.walk_open.ensures

pub walk_choice-walk_open-requires-2 : goal.walk_choice-walk_open-requires-2
walk_choice-walk_open-requires-2 t c =
    let s = c in
    let l = s.requires in
    (to_open t (length s.args.day.now.mins.now) s.args.choice s.decreases, seen_requires s.args.given.now.tables.now s.args.domains.now l c.if-turns-eq0.false c.if-choice-plan.false (seen_far_here _ _ _ _ _ (so_far [] [] l) l.shaped.plan-fits c.near_end.ensures c.if-near_end.false c.look_ahead-seen.ensures) refl)

pub walk_choice-shape_of-buffer : goal.walk_choice-shape_of-buffer
walk_choice-shape_of-buffer t c =
    c.walk_open-2.auto.buffer

pub walk_choice-returns : goal.walk_choice-returns
walk_choice-returns t c =
    let l = c.requires in
    walked-seen _ _ l c.if-turns-eq0.false c.if-choice-plan.false (seen_far_here _ _ _ _ _ (so_far [] [] l) l.shaped.plan-fits c.near_end.ensures c.if-near_end.false c.look_ahead-seen.ensures) refl {after = standing c.walk_open-2.result c.walk_open-2.new.turns c.walk_open-2.new.met c.walk_open-2.new.buffer} c.walk_open-2.ensures

pub walk_open-returns-then-opened-eq0 : goal.walk_open-returns-then-opened-eq0
walk_open-returns-then-opened-eq0 t c =
    let o = c.open_next-opened.ensures in
    none_open _ _ c.requires o.0 o.1.1.0 o.1.1.1 refl c.if-opened-eq0.true

pub walk_open-walk_place-requires : goal.walk_open-walk_place-requires
walk_open-walk_place-requires t c =
    let s = c in
    let l = s.requires in
    let o = c.open_next-opened.ensures in
    let r = open_requires s.args.given.now.tables.now s.args.domains.now l o.0 o.1.1.0 o.1.1.1 refl c.rows_after-rows.ensures c.if-opened-eq0.false in
    (open_place t (length s.args.day.now.mins.now) s.args.choice _ _ s.decreases r.1.few l.shaped.few-slots, r)

pub walk_open-shape_of-buffer : goal.walk_open-shape_of-buffer
walk_open-shape_of-buffer t c =
    c.walk_place.auto.buffer

pub walk_open-returns : goal.walk_open-returns
walk_open-returns t c =
    let o = c.open_next-opened.ensures in
    walked_open _ _ c.requires o.0 o.1.1.0 o.1.1.1 refl c.rows_after-rows.ensures {standing' = standing c.walk_place.result c.walk_place.new.turns c.walk_place.new.met c.walk_place.new.buffer} c.walk_place.ensures

pub walk_place-overflow_add-choice : goal.walk_place-overflow_add-choice
walk_place-overflow_add-choice t c =
    let w = c.requires.0.walks in
    record { fits = next-choice _ _ w.within w.few-choices }

pub walk_place-walk_choice-going-requires : goal.walk_place-walk_choice-going-requires
walk_place-walk_choice-going-requires t c =
    let s = c in
    let l = s.requires.0 in
    let o = s.requires.1 in
    let t₁ = c.take_place-stood.ensures in
    let g = stood_as t₁ (take-allowed _ _ _ [] [] l o) in
    (to_choice t (length s.args.day.now.mins.now) s.args.choice s.args.left s.decreases l.walks.within o.some, taken_requires _ _ _ [] [] l o g.0 g.1 g.2 g.3)

pub walk_place-shape_of-buffer-then-not-going : goal.walk_place-shape_of-buffer-then-not-going
walk_place-shape_of-buffer-then-not-going t c =
    c.walk_choice-going.auto.buffer

pub walk_place-returns-then-not-going : goal.walk_place-returns-then-not-going
walk_place-returns-then-not-going t c =
    let s = c in
    let l = s.requires.0 in
    let o = s.requires.1 in
    let t₁ = c.take_place-stood.ensures in
    let g = stood_as t₁ (take-allowed _ _ _ [] [] l o) in
    let v = left_as t₁ c.leave_place.ensures (leave_allowed _ _ _ [] [] l o) in
    walked-stopped _ _ _ _ _ l o g.0 g.1 g.2 g.3 c.walk_choice-going.ensures refl v.0 v.1 (c.if-not-going.true)

pub walk_place-shape_of-buffer-then-next-eq0 : goal.walk_place-shape_of-buffer-then-next-eq0
walk_place-shape_of-buffer-then-next-eq0 t c =
    c.walk_choice-going.auto.buffer

pub walk_place-returns-then-next-eq0 : goal.walk_place-returns-then-next-eq0
walk_place-returns-then-next-eq0 t c =
    let s = c in
    let l = s.requires.0 in
    let o = s.requires.1 in
    let t₁ = c.take_place-stood.ensures in
    let g = stood_as t₁ (take-allowed _ _ _ [] [] l o) in
    let v = left_as t₁ c.leave_place.ensures (leave_allowed _ _ _ [] [] l o) in
    let w = passed_as _ _ _ _ _ _ t₁ (leave_allowed _ _ _ [] [] l o) c.none_met-unmet.ensures c.pass_over-still.ensures in
    let h = c.next_after-next.ensures in
    let i = c.if-not-going.false in
    walked-last _ _ _ _ _ l o g.0 g.1 g.2 g.3 c.walk_choice-going.ensures refl v.0 v.1 i w h c.if-next-eq0.true

pub walk_place-walk_place-requires : goal.walk_place-walk_place-requires
walk_place-walk_place-requires t c =
    let s = c in
    let l = s.requires.0 in
    let o = s.requires.1 in
    let t₁ = c.take_place-stood.ensures in
    let g = stood_as t₁ (take-allowed _ _ _ [] [] l o) in
    let v = left_as t₁ c.leave_place.ensures (leave_allowed _ _ _ [] [] l o) in
    let w = passed_as _ _ _ _ _ _ t₁ (leave_allowed _ _ _ [] [] l o) c.none_met-unmet.ensures c.pass_over-still.ensures in
    let h = c.next_after-next.ensures in
    let i = c.if-not-going.false in
    (to_next t (length s.args.day.now.mins.now) s.args.choice s.args.left _ s.decreases (fewer _ _ _ _ _ l o g.0 g.1 g.2 g.3 c.walk_choice-going.ensures refl v.0 v.1 i w h), rest_requires _ _ _ _ _ l o g.0 g.1 g.2 g.3 c.walk_choice-going.ensures refl v.0 v.1 i w h c.walk_choice-going.auto.buffer c.if-next-eq0.false)

pub walk_place-shape_of-buffer : goal.walk_place-shape_of-buffer
walk_place-shape_of-buffer t c =
    c.walk_place.auto.buffer ∙ c.walk_choice-going.auto.buffer

pub walk_place-returns : goal.walk_place-returns
walk_place-returns t c =
    let s = c in
    let l = s.requires.0 in
    let o = s.requires.1 in
    let t₁ = c.take_place-stood.ensures in
    let g = stood_as t₁ (take-allowed _ _ _ [] [] l o) in
    let v = left_as t₁ c.leave_place.ensures (leave_allowed _ _ _ [] [] l o) in
    let w = passed_as _ _ _ _ _ _ t₁ (leave_allowed _ _ _ [] [] l o) c.none_met-unmet.ensures c.pass_over-still.ensures in
    let h = c.next_after-next.ensures in
    let i = c.if-not-going.false in
    walked-rest _ _ _ _ _ l o g.0 g.1 g.2 g.3 c.walk_choice-going.ensures refl v.0 v.1 i w h c.walk_place.ensures
