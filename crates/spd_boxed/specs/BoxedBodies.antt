-- What is told of a body behind a pointer: what is told of the inner one, until that gave a body for which there was no memory.
use Rattle.std.specs.Prelude.{◌≡◌, ℕ, ℤ, Bool, true, false, None}
use Rattle.spd_words.specs.Meaning.{BodyView, Ended, Promise}
use Rattle.spd_words.specs.declared.event.Part.{Part}
use Rattle.spd_words.specs.declared.event.Part.TheVariants as part
use Rattle.spd_boxed.specs.declared.boxed_body.BoxedBody.{BoxedBody}
use Rattle.spd_boxed.specs.declared.boxed_body.InnerBody.{InnerBody}

-- a body that has ended, and waits for nothing
abbrev pub starved : BodyView → BodyView
starved v = record { means = record v.means { awaited = None }; stage = Ended; size = v.size }

-- ended, where it lacks memory
abbrev pub view_by : Bool → BodyView → BodyView
view_by true v = starved v
view_by false v = v

abbrev pub boxed_view : {B : Type 0} → (B → BodyView) → BoxedBody B → BodyView
boxed_view view b = view_by b.inner.value.lacks (view b.inner.value.body)

-- ---- parts

-- the part, without its pointer
abbrev pub unboxed : {B : Type 0} → Part (BoxedBody B) → Part B
unboxed (part.Async b) = part.Async b.inner.value.body
unboxed (part.Finish kind b) = part.Finish kind b.inner.value.body

abbrev pub part_lacks : {B : Type 0} → Part (BoxedBody B) → Bool
part_lacks (part.Async b) = b.inner.value.lacks
part_lacks (part.Finish kind b) = b.inner.value.lacks

-- The inner body of a part that didn't lack memory fits the inner body.
abbrev pub boxed_fits : {B : Type 0} → (B → Part B → Type 0) → BoxedBody B → Part (BoxedBody B) → Type 0
boxed_fits fits b p = (part_lacks p ≡ false) × fits b.inner.value.body (unboxed p)

abbrev pub boxed_resumed : {B : Type 0} → (B → ℤ → ℕ → Promise) → BoxedBody B → ℤ → ℕ → Promise
boxed_resumed resumed b gift fault = resumed b.inner.value.body gift fault
