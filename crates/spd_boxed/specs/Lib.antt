pub mod BoxedBodies
