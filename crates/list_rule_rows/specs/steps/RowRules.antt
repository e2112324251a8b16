-- What a row of kinds 1 to 5 leaves of the domains of the choices that it names.
use Rattle.std.specs.Prelude.{Bool, true, false, ◌&&◌, ◌||◌, not, cond, List, ℕ, ◌+◌, ◌-◌, eqb, ltb, leb, get_or, set}
use Rattle.day_rows.specs.declared.row.Row.{Row}
use Rattle.base_choice_sets.specs.Sets.{has, set_of}
use Rattle.list_domains.specs.steps.Domains.{only_place, kept_places, both_places, in_one_slot}

-- a choice of the day that has a domain: no domain is past 63
unfoldable pub has_domain : ℕ → ℕ → Bool
has_domain choices choice = ltb choice choices && ltb choice 64

-- kinds 1 and 2: the slot alone, or any place but the slot; a slot past the day's takes nothing away
unfoldable pub slot_leaves : ℕ → ℕ → Bool → ℕ → ℕ
slot_leaves slots slot stands domain =
    cond (ltb slot slots) (kept_places domain slot stands (not stands)) domain

-- what a row between a choice and a slot leaves of the domains
unfoldable pub slot_rule : ℕ → ℕ → Row → Bool → List ℕ → List ℕ
slot_rule choices slots row stands domains =
    cond (has_domain choices row.left)
    (set domains row.left (slot_leaves slots row.right stands (get_or domains row.left 0)))
    domains

-- kind 4: a slot that one side must take leaves the other
unfoldable pub apart : ℕ → ℕ → ℕ → ℕ
apart slots domain other =
    cond (in_one_slot slots other) (set_of 64 λ p. has domain p && not (has other p)) domain

-- the other side may take the slot that is so much higher and so much lower
unfoldable pub facing : ℕ → ℕ → ℕ → ℕ → ℕ → Bool
facing slots other up down p =
    ltb p slots && leb down (p + up) && ltb (p + up - down) slots && has other (p + up - down)

-- the places of one side that the other side can face: omission faces omission
unfoldable pub facing_places : ℕ → ℕ → ℕ → ℕ → ℕ → ℕ
facing_places slots domain other up down =
    set_of 64 λ p. has domain p && cond (eqb p slots) (has other slots) (facing slots other up down p)

-- kind 5, extra being the offset plus 32,768: right's slot p faces left's slot q with p + 32768 ≡ q + extra
unfoldable pub right_faces : ℕ → ℕ → ℕ → ℕ → ℕ
right_faces slots left right extra = facing_places slots right left 32768 extra

-- kind 5 from the other side: left's slot q faces right's slot p
unfoldable pub left_faces : ℕ → ℕ → ℕ → ℕ → ℕ
left_faces slots left right extra = facing_places slots left right extra 32768

-- what a row between two choices leaves of its left choice's domain
unfoldable pub pair_left : ℕ → Row → ℕ → ℕ → ℕ
pair_left slots row left right =
    cond (eqb row.kind 3) (both_places left right)
    (cond (eqb row.kind 4) (apart slots left right)
    (cond (eqb row.kind 5) (left_faces slots left right row.extra)
    left))

-- what a row between two choices leaves of its right choice's domain
unfoldable pub pair_right : ℕ → Row → ℕ → ℕ → ℕ
pair_right slots row left right =
    cond (eqb row.kind 3) (both_places left right)
    (cond (eqb row.kind 4) (apart slots right left)
    (cond (eqb row.kind 5) (right_faces slots left right row.extra)
    right))

-- the domains with left's narrowed, and then right's by what is left of left's
unfoldable pub pair_set : ℕ → Row → List ℕ → ℕ → List ℕ
pair_set slots row domains left =
    set (set domains row.left left) row.right (pair_right slots row left (get_or domains row.right 0))

-- what a row between two choices leaves of the domains
unfoldable pub pair_rule : ℕ → ℕ → Row → List ℕ → List ℕ
pair_rule choices slots row domains =
    cond (has_domain choices row.left && has_domain choices row.right)
    (pair_set slots row domains
    (pair_left slots row (get_or domains row.left 0) (get_or domains row.right 0)))
    domains

-- kinds 4 and 5 of a choice with itself: no slot is another than itself, and an offset other than 0 leads to
-- another; omission alone is left
unfoldable pub self_leaves : ℕ → Row → ℕ → ℕ
self_leaves slots row domain =
    cond (eqb row.kind 4 || (eqb row.kind 5 && not (eqb row.extra 32768)))
    (both_places domain (only_place slots))
    domain

-- what a row of a choice with itself leaves of the domains
unfoldable pub self_rule : ℕ → ℕ → Row → List ℕ → List ℕ
self_rule choices slots row domains =
    cond (has_domain choices row.left)
    (set domains row.left (self_leaves slots row (get_or domains row.left 0)))
    domains

-- what a row that names two choices leaves of the domains; the two may be one
unfoldable pub between_rule : ℕ → ℕ → Row → List ℕ → List ℕ
between_rule choices slots row domains =
    cond (eqb row.left row.right) (self_rule choices slots row domains)
    (pair_rule choices slots row domains)

-- what a row of kinds 1 to 5 leaves of the domains, by its kind; one of another kind takes nothing away here
unfoldable pub row_rule : ℕ → ℕ → Row → List ℕ → List ℕ
row_rule choices slots row domains =
    cond (eqb row.kind 1) (slot_rule choices slots row true domains)
    (cond (eqb row.kind 2) (slot_rule choices slots row false domains)
    (cond (eqb row.kind 3) (between_rule choices slots row domains)
    (cond (eqb row.kind 4) (between_rule choices slots row domains)
    (cond (eqb row.kind 5) (between_rule choices slots row domains)
    domains))))
