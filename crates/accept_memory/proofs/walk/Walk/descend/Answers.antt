use Rattle.std.proofs.Common.{◌≡◌, ap, ◌∙◌, subst}
use Rattle.host.specs.Levels.{level_number}
use Rattle.accept_memory.specs.Courses.{OnCourse}
use Rattle.accept_memory.specs.States.{state_of}
use Rattle.accept_memory.specs.Walks.{asking, View}
use Rattle.accept_memory.proofs.CourseLaws.{course_lower}
use Rattle.accept_memory.proofs.walk.Walk.descend.Goals as goal

pub invariant_of-self : goal.invariant_of-self
invariant_of-self c =
    let w = c.self.inside in
    let l = level_number c.args.level in
    let state_is : state_of w.state ≡ asking l = ap (λ (v : View). v.state) c.self.view_is ∙ c.requires.0 in
    let course = subst (OnCourse w.next w.end w.count w.status) state_is c.self.invariant in
    rw c.smaller.ensures (course_lower w.next w.end w.count w.status c.args.status l c.requires.1 course)
