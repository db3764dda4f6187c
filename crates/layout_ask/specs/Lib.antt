pub mod ValueFound
