-- `passes::check_with` meets its contract. Assumes nothing.
use mathlib.Core.Path.{◌≡◌, refl}
use Rattle.std.proofs.Common.{rules, Ok, Err}
use Rattle.passes.proofs.Passing.{ready, headings_passed, headings_refused, bodies_ready}
use Rattle.passes.proofs.Passing.{bodies_passed, bodies_refused}
use Rattle.passes.proofs.check_with.Goals as goal

pub returns-in_err-many : goal.returns-in_err-many
returns-in_err-many c =
    let e : c.from_residual.result ≡ Err c.in_err-many.field-0.0 = search rules in
    let h : c.check_headings.result ≡ Err c.in_err-many.field-0.0 = search rules in
    let y = rw h at c.check_headings.ensures
    (ready c.requires.stands c.requires.room c.requires.class_room c.requires.body_room) in
    rw e (headings_refused c.requires.stands c.requires.room.whole _ y.0)

pub check_bodies-requires : goal.check_bodies-requires
check_bodies-requires c =
    let h : c.check_headings.result ≡ Ok c.in_ok-many.many = search rules in
    let y = rw h at c.check_headings.ensures
    (ready c.requires.stands c.requires.room c.requires.class_room c.requires.body_room) in
    bodies_ready (headings_passed c.requires.stands c.requires.room.whole y.0 (y.1 _ refl)) c.requires.body_room

pub returns-in_err-check_bodies : goal.returns-in_err-check_bodies
returns-in_err-check_bodies c =
    let e : c.from_residual-in_err-check_bodies.result ≡ Err c.in_err-check_bodies.field-0.0 = search rules in
    let h : c.check_headings.result ≡ Ok c.in_ok-many.many = search rules in
    let y = rw h at c.check_headings.ensures
    (ready c.requires.stands c.requires.room c.requires.class_room c.requires.body_room) in
    rw e (bodies_refused (headings_passed c.requires.stands c.requires.room.whole y.0 (y.1 _ refl))
    c.requires.body_room _ c.in_err-check_bodies.ensures)

pub returns : goal.returns
returns c =
    let h : c.check_headings.result ≡ Ok c.in_ok-many.many = search rules in
    let y = rw h at c.check_headings.ensures
    (ready c.requires.stands c.requires.room c.requires.class_room c.requires.body_room) in
    bodies_passed (headings_passed c.requires.stands c.requires.room.whole y.0 (y.1 _ refl)) c.requires.body_room
    c.in_ok-check_bodies.ensures
