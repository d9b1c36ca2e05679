use Rattle.thread_session.proofs.answers.make.Goals as goal

pub returns-in-Register : goal.returns-in-Register
returns-in-Register c = rw (c.in-Register.is, c.plain.ensures) c.register.ensures

pub returns-in-Unregister : goal.returns-in-Unregister
returns-in-Unregister c = rw (c.in-Unregister.is, c.plain-in-Unregister.ensures) c.unregister.ensures

pub returns-in-Destroy : goal.returns-in-Destroy
returns-in-Destroy c = rw (c.in-Destroy.is, c.plain-in-Destroy.ensures) c.destroy.ensures

pub returns-in-Cleanup : goal.returns-in-Cleanup
returns-in-Cleanup c = rw (c.in-Cleanup.is, c.plain-in-Cleanup.ensures) c.cleanup.ensures

pub returns-in-Remove : goal.returns-in-Remove
returns-in-Remove c = rw (c.in-Remove.is, c.plain-in-Remove.ensures) c.remove.ensures

pub returns-in-AssignComponent : goal.returns-in-AssignComponent
returns-in-AssignComponent c = rw (c.in-AssignComponent.is, c.plain-in-AssignComponent.ensures) c.assign_component.ensures

pub returns-in-SetDomain : goal.returns-in-SetDomain
returns-in-SetDomain c = rw (c.in-SetDomain.is, c.plain-in-SetDomain.ensures) c.set_domain.ensures

pub returns-in-SetMultiplex : goal.returns-in-SetMultiplex
returns-in-SetMultiplex c = rw (c.in-SetMultiplex.is, c.plain-in-SetMultiplex.ensures) c.set_multiplex.ensures

pub returns-in-Overflow : goal.returns-in-Overflow
returns-in-Overflow c = rw (c.in-Overflow.is, c.plain-in-Overflow.ensures) c.overflow.ensures

pub returns-in-Start : goal.returns-in-Start
returns-in-Start c = rw (c.in-Start.is, c.plain-in-Start.ensures) c.start.ensures

pub returns-in-Reset : goal.returns-in-Reset
returns-in-Reset c = rw (c.in-Reset.is, c.plain-in-Reset.ensures) c.reset.ensures
