use Rattle.list_nodes.proofs.CountLaws.{none_left, some-node, counted-full, counted-on, counted_none, counted_omission, counted-over, counted-ends, counted-slot}
use Rattle.list_nodes.proofs.nodes.+count_choice_count_place.Goals as goal

pub count_choice-returns-then-left-eq0 : goal.count_choice-returns-then-left-eq0
count_choice-returns-then-left-eq0 t c =
    none_left (some-node _ _ _ _ _ _ _) c.if-left-eq0.true

pub count_choice-returns-then-choice-day : goal.count_choice-returns-then-choice-day
count_choice-returns-then-choice-day t c =
    counted-full _ _ _ _ _ _ c.if-left-eq0.false c.if-choice-day.true

pub count_choice-returns : goal.count_choice-returns
count_choice-returns t c =
    let s = c in
    counted-on _ _ _ _ _ _ c.if-left-eq0.false s.requires.within c.if-choice-day.false c.count_place.ensures

pub count_place-returns-then-day-choice-ne1 : goal.count_place-returns-then-day-choice-ne1
count_place-returns-then-day-choice-ne1 t c =
    let w = c.requires.0 in
    counted_none _ _ _ _ _ _ _ _ c.if-slot-day.true w.few-slots c.if-day-choice-ne1.true

pub count_place-returns-then-slot-day : goal.count_place-returns-then-slot-day
count_place-returns-then-slot-day t c =
    let w = c.requires.0 in
    counted_omission _ _ _ _ _ _ _ _ c.if-slot-day.true w.few-slots c.if-day-choice-ne1.false c.count_choice.ensures

pub count_place-returns-then-day-after : goal.count_place-returns-then-day-after
count_place-returns-then-day-after t c =
    let s = c in
    counted-over _ _ _ _ _ _ _ _ s.requires.1 c.if-slot-day.false c.from.ensures c.if-day-after.true c.count_place.ensures

pub count_place-returns-then-not-count_choice : goal.count_place-returns-then-not-count_choice
count_place-returns-then-not-count_choice t c =
    let s = c in
    counted-ends _ _ _ _ _ _ _ _ s.requires.1 c.if-slot-day.false c.from.ensures c.if-day-after.false c.count_choice-2.ensures (c.if-not-count_choice.true)

pub count_place-returns : goal.count_place-returns
count_place-returns t c =
    let s = c in
    counted-slot _ _ _ _ _ _ _ _ s.requires.1 c.if-slot-day.false c.from.ensures c.if-day-after.false c.count_choice-2.ensures (c.if-not-count_choice.false) c.count_place-2.ensures
