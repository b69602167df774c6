pub mod EventsAt
